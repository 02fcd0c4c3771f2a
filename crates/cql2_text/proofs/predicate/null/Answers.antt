use Rattle.std.proofs.Common.{◌≢◌, List, ◌∷◌, rules}
use Rattle.cql2_text.specs.Predicate.{is_not_null, is_null}
use Rattle.cql2_tokens.specs.declared.token.Keyword.TheVariants as word
use Rattle.cql2_tokens.specs.declared.token.Token.{Token}
use Rattle.cql2_tokens.specs.declared.token.Token.TheVariants.{Keyword}
use Rattle.cql2_text.proofs.SpelledLemmas.{not-null-of, null-begins}
use Rattle.cql2_text.proofs.TokenLemmas.{word-is}
use Rattle.cql2_text.proofs.predicate.null.Goals as goal

pub returns-in-Some-Keyword-Null-default-clause-ok : goal.returns-in-Some-Keyword-Null-default-clause-ok
returns-in-Some-Keyword-Null-default-clause-ok g c =
    let k = c.in-Some-Keyword-Null-default in
    let is = word-is _ _ _ _ _ k.ensures k.field-0-0-is k.field-0-0-0-is in
    rw is is_null

pub returns-in_ok-filter-in-Some-Keyword-Not-default-clause-ok : goal.returns-in_ok-filter-in-Some-Keyword-Not-default-clause-ok
returns-in_ok-filter-in-Some-Keyword-Not-default-clause-ok g c =
    let k = c.in-Some-Keyword-Not-default in
    let is = word-is _ _ _ _ _ k.ensures k.field-0-0-is k.field-0-0-0-is in
    rw (is, c.in_ok-rest-in-Some-Keyword-Not-default.ensures) (is_not_null c.in_ok-filter-in-Some-Keyword-Not-default.ensures)

pub returns-in_ok-filter-in-Some-Keyword-Not-default-clause-reads :
    goal.returns-in_ok-filter-in-Some-Keyword-Not-default-clause-reads
returns-in_ok-filter-in-Some-Keyword-Not-default-clause-reads g c =
    let k = c.in-Some-Keyword-Not-default in
    let is = word-is _ _ _ _ _ k.ensures k.field-0-0-is k.field-0-0-0-is in
    λ rest made spelled. not-null-of (rw (is, c.in_ok-rest-in-Some-Keyword-Not-default.ensures) at spelled)
    c.in_ok-filter-in-Some-Keyword-Not-default.ensures

pub returns-in_default-clause-reads : goal.returns-in_default-clause-reads
returns-in_default-clause-reads g c =
    let words = c.args.words.now in
    let no_null : (w : List Token) → words ≢ Keyword word.Null ∷ w = search rules in
    let no_not : (w : List Token) → words ≢ Keyword word.Not ∷ w = search rules in
    λ rest made spelled. absurd (null-begins no_null no_not spelled)
