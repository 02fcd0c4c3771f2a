use Rattle.std.proofs.Common.{◌≡◌, ap, refl, rules}
use Rattle.cql2_text.specs.Content.{Function}
use Rattle.cql2_text.specs.Function.{Intersects}
use Rattle.cql2_text.specs.declared.syntax_fault.SyntaxFault.TheVariants.{Memory}
use Rattle.cql2_text.proofs.function.intersects.Goals as goal

pub returns-clause-ok : goal.returns-clause-ok
returns-clause-ok g c = record { shape = c.in_ok-shape.shape; operands = c.in_ok-shape.ensures.ok; is = refl }

pub returns-in_err-shape-clause-reads : goal.returns-in_err-shape-clause-reads
returns-in_err-shape-clause-reads g c =
    λ rest made is.
    let memory : c.in_err-shape.field-0.0 ≡ Memory = c.in_err-shape.ensures.reads _ _ is.operands in
    search rules

pub returns-clause-reads : goal.returns-clause-reads
returns-clause-reads g c =
    λ rest made is.
    let read = c.in_ok-shape.ensures.reads _ _ is.operands in
    (read.0, rw is.is (ap (λ content. Function (Intersects content)) read.1))
