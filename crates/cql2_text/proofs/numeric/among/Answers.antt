use Rattle.std.proofs.Common.{◌≡◌, rules}
use Rattle.cql2_text.specs.Compared.{is_between, is_in_list}
use Rattle.cql2_text.specs.ReadNumber.{IsNotFirst}
use Rattle.cql2_text.specs.declared.syntax_fault.SyntaxFault.TheVariants.{Memory}
use Rattle.cql2_tokens.specs.declared.token.Keyword.TheVariants as word
use Rattle.cql2_tokens.specs.declared.token.Token.TheVariants.{Keyword}
use Rattle.cql2_text.proofs.ComparedLemmas.{among-begins, between-number-of, list-number-of}
use Rattle.cql2_text.proofs.TokenLemmas.{word-is}
use Rattle.cql2_text.proofs.numeric.among.Goals as goal

pub returns-in_ok-filter-in-Some-Keyword-Between-default-clause-ok : goal.returns-in_ok-filter-in-Some-Keyword-Between-default-clause-ok
returns-in_ok-filter-in-Some-Keyword-Between-default-clause-ok g c =
    let k = c.in-Some-Keyword-Between-default in
    let is = word-is _ _ _ _ _ k.ensures k.field-0-0-is k.field-0-0-0-is in
    rw is (is_between c.in_ok-filter-in-Some-Keyword-Between-default.ensures.ok)

pub returns-in_err-filter-in-Some-Keyword-Between-default-clause-reads : goal.returns-in_err-filter-in-Some-Keyword-Between-default-clause-reads
returns-in_err-filter-in-Some-Keyword-Between-default-clause-reads g c =
    let k = c.in-Some-Keyword-Between-default in
    let is = word-is _ _ _ _ _ k.ensures k.field-0-0-is k.field-0-0-0-is in
    λ after rest made spelled.
    let inner = between-number-of (rw is at spelled) in
    let memory : c.in_err-filter-in-Some-Keyword-Between-default.field-0.0 ≡ Memory =
    c.in_err-filter-in-Some-Keyword-Between-default.ensures.reads after rest made inner in
    search rules

pub returns-in_ok-filter-in-Some-Keyword-Between-default-clause-reads : goal.returns-in_ok-filter-in-Some-Keyword-Between-default-clause-reads
returns-in_ok-filter-in-Some-Keyword-Between-default-clause-reads g c =
    let k = c.in-Some-Keyword-Between-default in
    let is = word-is _ _ _ _ _ k.ensures k.field-0-0-is k.field-0-0-0-is in
    λ after rest made spelled. c.in_ok-filter-in-Some-Keyword-Between-default.ensures.reads after rest made (between-number-of (rw is at spelled))

pub returns-in_ok-rest-in-Some-Keyword-In-default-clause-ok : goal.returns-in_ok-rest-in-Some-Keyword-In-default-clause-ok
returns-in_ok-rest-in-Some-Keyword-In-default-clause-ok g c =
    let k = c.in-Some-Keyword-In-default in
    let is = word-is _ _ _ _ _ k.ensures k.field-0-0-is k.field-0-0-0-is in
    let members = rw c.in_ok-rest-in-Some-Keyword-In-default.ensures at c.in_ok-filter-in-Some-Keyword-In-default.ensures.ok in
    rw (is, c.in_ok-inner-in-Some-Keyword-In-default.ensures) (is_in_list members)

pub returns-in_err-rest-in-Some-Keyword-In-default-clause-reads : goal.returns-in_err-rest-in-Some-Keyword-In-default-clause-reads
returns-in_err-rest-in-Some-Keyword-In-default-clause-reads g c =
    let k = c.in-Some-Keyword-In-default in
    let is = word-is _ _ _ _ _ k.ensures k.field-0-0-is k.field-0-0-0-is in
    λ after rest made spelled.
    let members = list-number-of (rw is at spelled) in
    let inner : members.0 ≡ c.in_ok-inner-in-Some-Keyword-In-default.inner.now = cc (members.1, c.in_ok-inner-in-Some-Keyword-In-default.ensures) in
    let read = c.in_ok-filter-in-Some-Keyword-In-default.ensures.reads after rest made (rw inner at members.2) in
    absurd (c.in_err-rest-in-Some-Keyword-In-default.ensures _ read.0)

pub returns-in_ok-rest-in-Some-Keyword-In-default-clause-reads : goal.returns-in_ok-rest-in-Some-Keyword-In-default-clause-reads
returns-in_ok-rest-in-Some-Keyword-In-default-clause-reads g c =
    let k = c.in-Some-Keyword-In-default in
    let is = word-is _ _ _ _ _ k.ensures k.field-0-0-is k.field-0-0-0-is in
    λ after rest made spelled.
    let members = list-number-of (rw is at spelled) in
    let inner : members.0 ≡ c.in_ok-inner-in-Some-Keyword-In-default.inner.now = cc (members.1, c.in_ok-inner-in-Some-Keyword-In-default.ensures) in
    let read = c.in_ok-filter-in-Some-Keyword-In-default.ensures.reads after rest made (rw inner at members.2) in
    let rest_same : c.in_ok-rest-in-Some-Keyword-In-default.rest.now ≡ rest = cc (read.0, c.in_ok-rest-in-Some-Keyword-In-default.ensures) in
    (rest_same, read.1)

pub returns-in_default-clause-reads : goal.returns-in_default-clause-reads
returns-in_default-clause-reads g c =
    let words = c.args.words.now in
    let no_between : IsNotFirst (Keyword word.Between) words = search rules in
    let no_in : IsNotFirst (Keyword word.In) words = search rules in
    λ after rest made spelled. absurd (among-begins no_between no_in spelled)
