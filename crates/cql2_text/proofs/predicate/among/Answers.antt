use Rattle.cql2_text.proofs.SpelledLemmas.{in-of}
use Rattle.std.proofs.Common.{◌≡◌, rules}
use Rattle.cql2_text.specs.Predicate.{is_in_list}
use Rattle.cql2_text.specs.declared.syntax_fault.SyntaxFault.TheVariants.{Memory}
use Rattle.cql2_text.proofs.predicate.among.Goals as goal

pub returns-clause-ok : goal.returns-clause-ok
returns-clause-ok g c = rw c.in_ok-inner.ensures (is_in_list (rw c.in_ok-rest.ensures at c.in_ok-filter.ensures.ok))

pub returns-in_err-filter-clause-reads : goal.returns-in_err-filter-clause-reads
returns-in_err-filter-clause-reads g c =
    λ rest made spelled.
    let members = in-of (rw c.in_ok-inner.ensures at spelled) in
    let memory : c.in_err-filter.field-0.0 ≡ Memory = c.in_err-filter.ensures.reads rest made members in
    search rules

pub returns-in_err-rest-clause-reads : goal.returns-in_err-rest-clause-reads
returns-in_err-rest-clause-reads g c =
    λ rest made spelled.
    let read = c.in_ok-filter.ensures.reads rest made (in-of (rw c.in_ok-inner.ensures at spelled)) in
    absurd (c.in_err-rest.ensures _ read.0)

pub returns-clause-reads : goal.returns-clause-reads
returns-clause-reads g c =
    λ rest made spelled.
    let read = c.in_ok-filter.ensures.reads rest made (in-of (rw c.in_ok-inner.ensures at spelled)) in
    let rest_same : c.in_ok-rest.rest.now ≡ rest = cc (read.0, c.in_ok-rest.ensures) in
    (rest_same, read.1)
