use Rattle.std.proofs.Common.{◌≡◌, rules}
use Rattle.cql2_text.specs.declared.syntax_fault.SyntaxFault.TheVariants.{Memory}
use Rattle.cql2_text.proofs.SpelledLemmas.{same-not}
use Rattle.cql2_text.proofs.function.disjoint.Goals as goal

pub returns-clause-ok : goal.returns-clause-ok
returns-clause-ok g c = record { meets = c.in_ok-meets.meets; intersects = c.in_ok-meets.ensures.ok; opposite = c.in_ok-filter.ensures }

pub returns-in_err-meets-clause-reads : goal.returns-in_err-meets-clause-reads
returns-in_err-meets-clause-reads g c =
    λ rest made is.
    let memory : c.in_err-meets.field-0.0 ≡ Memory = c.in_err-meets.ensures.reads _ _ is.intersects in
    search rules

pub returns-clause-reads : goal.returns-clause-reads
returns-clause-reads g c =
    λ rest made is.
    let read = c.in_ok-meets.ensures.reads _ _ is.intersects in
    (read.0, same-not _ _ _ _ read.1 c.in_ok-filter.ensures is.opposite)
