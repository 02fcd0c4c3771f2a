use Rattle.std.proofs.Common.{◌≡◌, rules}
use Rattle.cql2_text.specs.Predicate.{text_in_list}
use Rattle.cql2_text.specs.ReadNumber.{IsNotFirst}
use Rattle.cql2_tokens.specs.declared.token.Keyword.TheVariants as word
use Rattle.cql2_tokens.specs.declared.token.Token.TheVariants.{Keyword}
use Rattle.cql2_text.proofs.TextFirstLemmas.{text-among-begins, text-list-of}
use Rattle.cql2_text.proofs.TokenLemmas.{word-is}
use Rattle.cql2_text.proofs.text_first.among.Goals as goal

pub returns-in_default-clause-reads : goal.returns-in_default-clause-reads
returns-in_default-clause-reads g c =
    let no_in : IsNotFirst (Keyword word.In) c.args.words.now = search rules in
    λ rest made spelled. absurd (text-among-begins no_in spelled)

pub returns-clause-ok : goal.returns-clause-ok
returns-clause-ok g c =
    let k = c.in-Some-Keyword-In-default in
    let is = word-is _ _ _ _ _ k.ensures k.field-0-0-is k.field-0-0-0-is in
    let members = rw c.in_ok-rest.ensures at c.in_ok-filter.ensures.ok in
    rw (is, c.in_ok-inner.ensures) (text_in_list members)

pub returns-clause-reads : goal.returns-clause-reads
returns-clause-reads g c =
    let k = c.in-Some-Keyword-In-default in
    let is = word-is _ _ _ _ _ k.ensures k.field-0-0-is k.field-0-0-0-is in
    λ rest made spelled.
    let members = text-list-of (rw is at spelled) in
    let inner : members.0 ≡ c.in_ok-inner.inner.now = cc (members.1, c.in_ok-inner.ensures) in
    let read = c.in_ok-filter.ensures.reads rest made (rw inner at members.2) in
    let rest_same : c.in_ok-rest.rest.now ≡ rest = cc (read.0, c.in_ok-rest.ensures) in
    (rest_same, read.1)
