use Rattle.cql2_text.proofs.SpelledLemmas.{same-like}
use Rattle.std.proofs.Common.{◌≡◌, refl, rules}
use Rattle.cql2_text.specs.declared.syntax_fault.SyntaxFault.TheVariants.{Memory}
use Rattle.cql2_text.proofs.predicate.like.Goals as goal

pub returns-clause-ok : goal.returns-clause-ok
returns-clause-ok g c = (c.in_ok-pattern.pattern, c.in_ok-pattern.ensures.ok, refl)

pub returns-in_err-pattern-clause-reads : goal.returns-in_err-pattern-clause-reads
returns-in_err-pattern-clause-reads g c =
    λ rest made is.
    let memory : c.in_err-pattern.field-0.0 ≡ Memory = c.in_err-pattern.ensures.reads rest is.0 is.1 in
    search rules

pub returns-clause-reads : goal.returns-clause-reads
returns-clause-reads g c =
    λ rest made is.
    let read = c.in_ok-pattern.ensures.reads rest is.0 is.1 in
    (read.0, same-like c.args.column c.in_ok-pattern.pattern is.0 made read.1 is.2)
