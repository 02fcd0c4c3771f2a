-- What is spelled after a string literal if the first tokens are known.
use Rattle.std.proofs.Common.{◌≡◌, ◌≤◌, ℕ, List, ◌∷◌, refl}
use Rattle.cql2.specs.declared.column.TextColumn.{TextColumn}
use Rattle.cql2.specs.declared.filter.Comparison.{Comparison}
use Rattle.cql2.specs.declared.filter.Comparison.TheVariants.{Equal}
use Rattle.cql2.specs.declared.filter.Filter.{Filter}
use Rattle.cql2.specs.declared.pattern.Folding.{Folding}
use Rattle.cql2_text.specs.Clause.{Opens}
use Rattle.cql2_text.specs.Connective.{IsNot}
use Rattle.cql2_text.specs.Predicate.{IsTextColumn, SpellsExchangedComparison, SpellsList, SpellsOfText, SpellsTextAmong}
use Rattle.cql2_text.specs.Predicate.{text_among, text_compared, text_in_list, text_not_among}
use Rattle.cql2_text.specs.ReadNumber.{IsNotFirst}
use Rattle.cql2_tokens.specs.declared.token.Keyword.TheVariants as word
use Rattle.cql2_tokens.specs.declared.token.Token.{Token}
use Rattle.cql2_tokens.specs.declared.token.Token.TheVariants.{Close, Compared, Keyword, Open}

module _ {A : Type 0} {start : List Token} where
  pub text-compared-of : {words rest : List Token} {k : Comparison} {made : Filter A} → SpellsOfText start (Compared k ∷ words) rest made
      → SpellsExchangedComparison start k words rest made
  text-compared-of (text_compared is) = is
  text-compared-of (text_among is) = elim is [ ]

  pub text-not-of : {words rest : List Token} {made : Filter A} → SpellsOfText start (Keyword word.Not ∷ words) rest made
      → (inner : Filter A) × SpellsTextAmong start words rest inner × IsNot inner made
  text-not-of (text_not_among {inner = inner} is opposite) = (inner, is, opposite)
  text-not-of (text_among is) = elim is [ ]

  pub text-among-of : {words rest : List Token} {made : Filter A} → ((k : Comparison) → IsNotFirst (Compared k) words)
      → IsNotFirst (Keyword word.Not) words → SpellsOfText start words rest made → SpellsTextAmong start words rest made
  text-among-of sign not (text_compared is) = absurd (sign _ _ refl)
  text-among-of sign not (text_among is) = is
  text-among-of sign not (text_not_among is opposite) = absurd (not _ refl)

  pub text-list-of : {words rest : List Token} {made : Filter A} → SpellsTextAmong start (Keyword word.In ∷ words) rest made
      → (inner : List Token) × (words ≡ Open ∷ inner) × SpellsList (SpellsExchangedComparison start Equal) inner (Close ∷ rest) made
  text-list-of (text_in_list {words = words} is) = (words, refl, is)

  pub text-among-begins : {words rest : List Token} {made : Filter A} → IsNotFirst (Keyword word.In) words
      → SpellsTextAmong start words rest made → ⊥
  text-among-begins members (text_in_list is) = members _ refl

-- a column, which may be in CASEI and ACCENTI
pub record OpensColumn (words : List Token) : Type 0 where
  pub depth : ℕ
  pub folding : Folding
  pub inner : List Token
  pub c : TextColumn
  pub rest : List Token
  pub opens : Opens depth folding words inner
  pub few : depth ≤ 64
  pub named : IsTextColumn c inner rest
