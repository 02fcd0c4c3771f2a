-- The filter that a text spells (CQL2, 21-065r2, annex B: one constructor per production).
use Rattle.std.specs.Prelude.{◌≡◌, ℕ, suc, true, false, List, [], ◌∷◌}
use Rattle.cql2.specs.declared.filter.Filter.{Filter}
use Rattle.cql2.specs.declared.filter.Filter.TheVariants as filter
use Rattle.cql2_tokens.specs.Lexed.{Lexes}
use Rattle.cql2_text.specs.Connective.{IsBoth, IsEither, IsNot}
use Rattle.cql2_text.specs.Function.{SpellsFunction}
use Rattle.cql2_text.specs.Parenthesis.{opens_filter}
use Rattle.cql2_text.specs.Predicate.{SpellsRelation}
use Rattle.cql2_tokens.specs.declared.token.FunctionName.{FunctionName}
use Rattle.cql2_tokens.specs.declared.token.Keyword.TheVariants as word
use Rattle.cql2_tokens.specs.declared.token.Token.{Token}
use Rattle.cql2_tokens.specs.declared.token.Token.TheVariants.{Keyword, Open, Close}

-- predicate, function, booleanLiteral
pub data SpellsPredicate {A : Type 0} : List Token → List Token → Filter A → Type 0 where
  true_literal : {rest : List Token} → SpellsPredicate (Keyword word.True ∷ rest) rest (filter.Constant true)
  false_literal : {rest : List Token} → SpellsPredicate (Keyword word.False ∷ rest) rest (filter.Constant false)
  function : {name : FunctionName} {words rest : List Token} {made : Filter A} → SpellsFunction name words rest made
      → SpellsPredicate (Keyword (word.Function name) ∷ words) rest made
  relation : {words rest : List Token} {made : Filter A} → SpellsRelation words rest made → SpellsPredicate words rest made

-- booleanExpression, booleanTerm, booleanFactor, booleanPrimary
pub data Production : Type 0 where
  Expression : Production
  Term : Production
  Factor : Production
  Primary : Production

-- The tokens, up to the rest, form a production that means the filter, with parentheses nested at most to this depth. The parentheses of
-- functions, lists and numbers don't count. What an opening parenthesis begins is known by what follows the one that closes it.
pub data Spells {A : Type 0} : ℕ → Production → List Token → List Token → Filter A → Type 0 where
  one_term : {depth : ℕ} {words rest : List Token} {made : Filter A} → Spells depth Term words rest made
      → Spells depth Expression words rest made
  either : {depth : ℕ} {words middle rest : List Token} {first second made : Filter A}
      → Spells depth Expression words (Keyword word.Or ∷ middle) first → Spells depth Term middle rest second
      → IsEither first second made → Spells depth Expression words rest made
  one_factor : {depth : ℕ} {words rest : List Token} {made : Filter A} → Spells depth Factor words rest made
      → Spells depth Term words rest made
  both : {depth : ℕ} {words middle rest : List Token} {first second made : Filter A}
      → Spells depth Term words (Keyword word.And ∷ middle) first → Spells depth Factor middle rest second
      → IsBoth first second made → Spells depth Term words rest made
  one_primary : {depth : ℕ} {words rest : List Token} {made : Filter A} → Spells depth Primary words rest made
      → Spells depth Factor words rest made
  not_primary : {depth : ℕ} {words rest : List Token} {inner made : Filter A} → Spells depth Primary words rest inner
      → IsNot inner made → Spells depth Factor (Keyword word.Not ∷ words) rest made
  grouped : {depth : ℕ} {words rest : List Token} {made : Filter A} → opens_filter (Open ∷ words) ≡ true
      → Spells depth Expression words (Close ∷ rest) made → Spells (suc depth) Primary (Open ∷ words) rest made
  predicate : {depth : ℕ} {words rest : List Token} {made : Filter A} → opens_filter words ≡ false → SpellsPredicate words rest made
      → Spells depth Primary words rest made

-- the whole text consists of tokens, which form a booleanExpression that means the filter, with parentheses nested up to 64 deep
pub record IsFilterText {A : Type 0} (text : List ℕ) (made : Filter A) : Type 0 where
  pub tokens : List Token
  pub lexed : Lexes text [] tokens
  pub spelled : Spells 64 Expression tokens [] made
