use Rattle.cql2.specs.declared.filter.Filter.TheVariants.{Like}
use Rattle.cql2_text.proofs.SpelledLemmas.{folded-of, same-not}
use Rattle.cql2_text.specs.declared.syntax_fault.SyntaxFault.TheVariants.{Memory}
use Rattle.std.proofs.Common.{refl, subst, ◌≡◌, rules}
use Rattle.cql2.specs.declared.filter.Filter.{Filter}
use Rattle.cql2_text.specs.Connective.{IsNot}
use Rattle.cql2_text.proofs.predicate.subject_comparison.Goals as goal

pub returns-in_ok-filter-in-NotEqual-clause-ok : goal.returns-in_ok-filter-in-NotEqual-clause-ok
returns-in_ok-filter-in-NotEqual-clause-ok g c =
    let same = c.in_ok-filter-in-Folded.ensures.ok in
    let opposite = subst (λ (f : Filter _). IsNot f c.in_ok-filter-in-NotEqual.filter) same.2 c.in_ok-filter-in-NotEqual.ensures in
    rw (c.in-Folded.is, c.in-NotEqual.is) (same.0, same.1, opposite)

pub returns-in_err-filter-in-Folded-clause-reads : goal.returns-in_err-filter-in-Folded-clause-reads
returns-in_err-filter-in-Folded-clause-reads g c =
    λ rest made is.
    let same = folded-of c.in-Folded.folding c.in-Folded.column c.args.comparison c.args.words.now rest made (rw c.in-Folded.is at is) in
    let memory : c.in_err-filter-in-Folded.field-0.0 ≡ Memory =
    c.in_err-filter-in-Folded.ensures.reads rest same.0 same.1 in
    search rules

pub returns-in-Equal-clause-reads : goal.returns-in-Equal-clause-reads
returns-in-Equal-clause-reads g c =
    λ rest made is. c.in_ok-filter-in-Folded.ensures.reads rest made (rw (c.in-Folded.is, c.in-Equal.is) at is)

pub returns-in_ok-filter-in-NotEqual-clause-reads : goal.returns-in_ok-filter-in-NotEqual-clause-reads
returns-in_ok-filter-in-NotEqual-clause-reads g c =
    λ rest made is.
    let k = rw (c.in-Folded.is, c.in-NotEqual.is) at is in
    let like = Like c.in-Folded.column k.0 in
    let read = c.in_ok-filter-in-Folded.ensures.reads rest like (k.0, k.1, refl) in
    let opposite = c.in_ok-filter-in-NotEqual in
    (read.0, same-not c.in_ok-filter-in-Folded.filter like opposite.filter made read.1 opposite.ensures k.2)
