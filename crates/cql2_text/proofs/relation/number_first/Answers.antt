use Rattle.std.proofs.Common.{◌≡◌, rules}
use Rattle.cql2_text.specs.Predicate.{number_null, of_number}
use Rattle.cql2_text.specs.declared.syntax_fault.SyntaxFault.TheVariants.{Memory}
use Rattle.cql2_text.proofs.RelationLemmas.{relation-null, relation-number}
use Rattle.cql2_text.proofs.relation.number_first.Goals as goal

pub returns-in_ok-filter-in-Some-clause-ok : goal.returns-in_ok-filter-in-Some-clause-ok
returns-in_ok-filter-in-Some-clause-ok g c = rw c.in-Some.ensures (number_null c.in_ok-filter-in-Some.ensures.ok)

pub returns-in_err-filter-in-Some-clause-reads : goal.returns-in_err-filter-in-Some-clause-reads
returns-in_err-filter-in-Some-clause-reads g c =
    λ rest made spelled.
    let is = relation-null (rw c.in-Some.ensures at spelled) in
    let memory : c.in_err-filter-in-Some.field-0.0 ≡ Memory = c.in_err-filter-in-Some.ensures.reads rest made is in
    search rules

pub returns-in_ok-filter-in-Some-clause-reads : goal.returns-in_ok-filter-in-Some-clause-reads
returns-in_ok-filter-in-Some-clause-reads g c =
    λ rest made spelled. c.in_ok-filter-in-Some.ensures.reads rest made (relation-null (rw c.in-Some.ensures at spelled))

pub returns-in_ok-filter-in-None-clause-ok : goal.returns-in_ok-filter-in-None-clause-ok
returns-in_ok-filter-in-None-clause-ok g c = of_number c.in_ok-filter-in-None.ensures.ok

pub returns-in_err-filter-in-None-clause-reads : goal.returns-in_err-filter-in-None-clause-reads
returns-in_err-filter-in-None-clause-reads g c =
    λ rest made spelled.
    let is = relation-number c.args.words.now rest made c.requires c.in-None.ensures spelled in
    let memory : c.in_err-filter-in-None.field-0.0 ≡ Memory = c.in_err-filter-in-None.ensures.reads is.middle rest made is.is_of in
    search rules

pub returns-in_ok-filter-in-None-clause-reads : goal.returns-in_ok-filter-in-None-clause-reads
returns-in_ok-filter-in-None-clause-reads g c =
    λ rest made spelled.
    let is = relation-number c.args.words.now rest made c.requires c.in-None.ensures spelled in
    c.in_ok-filter-in-None.ensures.reads is.middle rest made is.is_of
