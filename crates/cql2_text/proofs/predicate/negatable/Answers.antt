use Rattle.cql2_tokens.specs.declared.token.Keyword.TheVariants as word
use Rattle.cql2_tokens.specs.declared.token.Token.TheVariants.{Keyword}
use Rattle.cql2_tokens.specs.declared.token.Token.{Token}
use Rattle.cql2_text.proofs.SpelledLemmas.{like-of, negatable-begins}
use Rattle.cql2_text.specs.declared.syntax_fault.SyntaxFault.TheVariants.{Memory}
use Rattle.std.proofs.Common.{◌≡◌, ◌≢◌, ◌∷◌, List, rules}
use Rattle.cql2_text.specs.Predicate.{is_like}
use Rattle.cql2_text.proofs.TokenLemmas.{word-is}
use Rattle.cql2_text.proofs.predicate.negatable.Goals as goal

pub returns-in_ok-filter-in-Text-clause-ok : goal.returns-in_ok-filter-in-Text-clause-ok
returns-in_ok-filter-in-Text-clause-ok g c =
    let k = c.in-Some-Keyword-Like-default in
    let is = word-is _ _ _ _ _ k.ensures k.field-0-0-is k.field-0-0-0-is in
    rw (is, c.in-Text.is) (is_like c.in_ok-filter-in-Text.ensures.ok)

pub returns-in_ok-filter-in-Folded-clause-ok : goal.returns-in_ok-filter-in-Folded-clause-ok
returns-in_ok-filter-in-Folded-clause-ok g c =
    let k = c.in-Some-Keyword-Like-default in
    let is = word-is _ _ _ _ _ k.ensures k.field-0-0-is k.field-0-0-0-is in
    rw (is, c.in-Folded.is) (is_like c.in_ok-filter-in-Folded.ensures.ok)

pub returns-in_err-filter-in-Text-clause-reads : goal.returns-in_err-filter-in-Text-clause-reads
returns-in_err-filter-in-Text-clause-reads g c =
    let k = c.in-Some-Keyword-Like-default in
    let is = word-is _ _ _ _ _ k.ensures k.field-0-0-is k.field-0-0-0-is in
    λ rest made spelled.
    let like = like-of (rw (is, c.in-Text.is) at spelled) in
    let memory : c.in_err-filter-in-Text.field-0.0 ≡ Memory =
    c.in_err-filter-in-Text.ensures.reads rest made like in
    search rules

pub returns-in_ok-filter-in-Text-clause-reads : goal.returns-in_ok-filter-in-Text-clause-reads
returns-in_ok-filter-in-Text-clause-reads g c =
    let k = c.in-Some-Keyword-Like-default in
    let is = word-is _ _ _ _ _ k.ensures k.field-0-0-is k.field-0-0-0-is in
    λ rest made spelled.
    let like = like-of (rw (is, c.in-Text.is) at spelled) in
    c.in_ok-filter-in-Text.ensures.reads rest made like

pub returns-in_err-filter-in-Folded-clause-reads : goal.returns-in_err-filter-in-Folded-clause-reads
returns-in_err-filter-in-Folded-clause-reads g c =
    let k = c.in-Some-Keyword-Like-default in
    let is = word-is _ _ _ _ _ k.ensures k.field-0-0-is k.field-0-0-0-is in
    λ rest made spelled.
    let like = like-of (rw (is, c.in-Folded.is) at spelled) in
    let memory : c.in_err-filter-in-Folded.field-0.0 ≡ Memory =
    c.in_err-filter-in-Folded.ensures.reads rest made like in
    search rules

pub returns-in_ok-filter-in-Folded-clause-reads : goal.returns-in_ok-filter-in-Folded-clause-reads
returns-in_ok-filter-in-Folded-clause-reads g c =
    let k = c.in-Some-Keyword-Like-default in
    let is = word-is _ _ _ _ _ k.ensures k.field-0-0-is k.field-0-0-0-is in
    λ rest made spelled.
    let like = like-of (rw (is, c.in-Folded.is) at spelled) in
    c.in_ok-filter-in-Folded.ensures.reads rest made like

pub returns-in_default-clause-reads : goal.returns-in_default-clause-reads
returns-in_default-clause-reads g c =
    let words = c.args.words.now in
    let no_like : (w : List Token) → words ≢ Keyword word.Like ∷ w = search rules in
    let no_in : (w : List Token) → words ≢ Keyword word.In ∷ w = search rules in
    λ rest made spelled. absurd (negatable-begins no_like no_in spelled)
