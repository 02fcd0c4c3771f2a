-- Predicates in terms of their tokens (CQL2, 21-065r2, annex B).
use Rattle.std.specs.Prelude.{◌≡◌, ◌≤◌, ◌+◌, ◌-◌, ℕ, Bool, true, false, List, ◌∷◌, map, Option, Some, None}
use denote.Ref.{Bor}
use Rattle.cql2.specs.Column.{text_places}
use Rattle.cql2.specs.declared.column.Column.{Column as AColumn}
use Rattle.cql2.specs.declared.column.Column.TheVariants as column
use Rattle.cql2.specs.declared.column.NumericColumn.{NumericColumn}
use Rattle.cql2.specs.declared.column.TextColumn.{TextColumn}
use Rattle.cql2.specs.declared.filter.Comparison.{Comparison}
use Rattle.cql2.specs.declared.filter.Comparison.TheVariants.{Equal, NotEqual}
use Rattle.cql2.specs.declared.filter.Filter.{Filter}
use Rattle.cql2.specs.declared.filter.Filter.TheVariants as filter
use Rattle.cql2.specs.declared.pattern.Folding.{Folding}
use Rattle.cql2.specs.declared.pattern.Pattern.{Pattern}
use Rattle.cql2.specs.declared.text.Text.{Text as AText}
use Rattle.cql2_text.specs.Compared.{SpellsOfNumber, converse}
use Rattle.cql2_text.specs.Connective.{IsEither, IsNot}
use Rattle.cql2_text.specs.Text.{IsComparedText}
use Rattle.cql2_text.specs.Clause.{IsClause, Opens, closed, nothing}
use Rattle.cql2_text.specs.Pattern.{IsLikePattern, character_pattern}
use Rattle.cql2_text.specs.declared.predicate.CharacterExpression.{CharacterExpression}
use Rattle.cql2_text.specs.declared.predicate.CharacterExpression.TheVariants as subject
use Rattle.cql2_tokens.specs.declared.token.Keyword.TheVariants as word
use Rattle.cql2_tokens.specs.declared.token.Token.{Token}
use Rattle.cql2_tokens.specs.declared.token.Token.TheVariants.{Keyword, Column, Compared, Open, Close, Comma, Text}

-- the number of bytes in a column
abbrev pub width_of : TextColumn → ℕ
width_of column = (text_places column).1 + 1 - (text_places column).0

-- propertyName of a text column
abbrev pub IsTextColumn : TextColumn → List Token → List Token → Type 0
IsTextColumn c words rest = words ≡ Column (column.Text c) ∷ rest

-- propertyName, which may be in CASEI and ACCENTI: the tokens up to the rest
abbrev pub IsSubject : CharacterExpression → List Token → List Token → Type 0
IsSubject (subject.Text c) words rest = IsTextColumn c words rest
IsSubject (subject.Folded folding c) words rest = IsClause (IsTextColumn c) folding words rest

-- characterLiteral, as a text that is compared with a column of this width
pub record IsText {A : Type 0} (width : ℕ) (words rest : List Token) (text : AText A) : Type 0 where
  pub spelling : Bor (List ℕ)
  pub spelled : words ≡ Text spelling ∷ rest
  pub compared : IsComparedText width spelling.now text.bytes.items

-- characterLiteral
pub record BeginsText (words rest : List Token) : Type 0 where
  pub spelling : Bor (List ℕ)
  pub is : words ≡ Text spelling ∷ rest

-- characterLiteral in CASEI and ACCENTI, as the pattern that matches the texts that are the same but for what is ignored
pub record IsFoldedText {A : Type 0} (folding : Folding) (column : TextColumn) (words rest : List Token) (pattern : Pattern A) : Type 0 where
  pub text : AText A
  pub clause : IsClause (λ inner after. IsText (width_of column) inner after text) folding words rest
  pub letters : pattern.parts.items ≡ map (character_pattern folding) text.bytes.items

-- characterLiteral, as a pattern for LIKE
pub record IsLikeColumn {A : Type 0} (c : TextColumn) (folding : Folding) (words rest : List Token) (pattern : Pattern A) : Type 0 where
  pub spelling : Bor (List ℕ)
  pub spelled : words ≡ Text spelling ∷ rest
  pub like : IsLikePattern (width_of c) folding spelling.now pattern

-- CASEI and ACCENTI allow only the comparisons `=` and `<>`
abbrev pub is_compared : CharacterExpression → Comparison → Bool
is_compared (subject.Folded folding c) Equal = true
is_compared (subject.Folded folding c) NotEqual = true
is_compared (subject.Folded folding c) comparison = false
is_compared s comparison = true

-- the comparison of a text column with characterLiteral or another text column
pub data SpellsTextComparison {A : Type 0} (c : TextColumn) (k : Comparison) : List Token → List Token → Filter A → Type 0 where
  with_literal : {words rest : List Token} {text : AText A} → IsText (width_of c) words rest text
      → SpellsTextComparison c k words rest (filter.CompareText c k text)
  with_column : {rest : List Token} {other : TextColumn}
      → SpellsTextComparison c k (Column (column.Text other) ∷ rest) rest (filter.CompareTexts c k other)

-- binaryComparisonPredicate about texts, after the operator
abbrev pub SpellsComparison : {A : Type 0} → CharacterExpression → Comparison → List Token → List Token → Filter A → Type 0
SpellsComparison {A = A} (subject.Text c) comparison words rest made = SpellsTextComparison c comparison words rest made
SpellsComparison {A = A} (subject.Folded folding c) Equal words rest made =
    (pattern : Pattern A) × IsFoldedText folding c words rest pattern × (made ≡ filter.Like c pattern)
SpellsComparison {A = A} (subject.Folded folding c) NotEqual words rest made =
    (pattern : Pattern A) × IsFoldedText folding c words rest pattern × IsNot (filter.Like c pattern) made
SpellsComparison {A = A} (subject.Folded folding c) comparison words rest made = ⊥

-- inList, without its parentheses: one of the items, each of which is compared
pub data SpellsList {A : Type 0} (Item : List Token → List Token → Filter A → Type 0) (words : List Token)
    : List Token → Filter A → Type 0 where
  one : {rest : List Token} {made : Filter A} → Item words rest made → SpellsList Item words rest made
  more : {middle rest : List Token} {first second made : Filter A} → SpellsList Item words (Comma ∷ middle) first
      → Item middle rest second → IsEither first second made → SpellsList Item words rest made

-- isLikePredicate, after LIKE
abbrev pub SpellsLike : {A : Type 0} → CharacterExpression → List Token → List Token → Filter A → Type 0
SpellsLike {A = A} (subject.Text c) words rest made =
    (pattern : Pattern A) × IsLikeColumn c nothing words rest pattern × (made ≡ filter.Like c pattern)
SpellsLike {A = A} (subject.Folded folding c) words rest made =
    (pattern : Pattern A) × IsClause (λ inner after. IsLikeColumn c folding inner after pattern) folding words rest
    × (made ≡ filter.Like c pattern)

-- the predicates about texts that NOT may precede
pub data SpellsNegatable {A : Type 0} : CharacterExpression → List Token → List Token → Filter A → Type 0 where
  is_like : {s : CharacterExpression} {words rest : List Token} {made : Filter A} → SpellsLike s words rest made
      → SpellsNegatable s (Keyword word.Like ∷ words) rest made
  is_in_list : {s : CharacterExpression} {words rest : List Token} {made : Filter A} → SpellsList (SpellsComparison s Equal) words (Close ∷ rest) made
      → SpellsNegatable s (Keyword word.In ∷ Open ∷ words) rest made

-- the column of a subject of which nothing is ignored
abbrev pub column_of : CharacterExpression → Option AColumn
column_of (subject.Text c) = Some (column.Text c)
column_of (subject.Folded folding c) = None

-- isNullPredicate about a column, after IS
pub data SpellsNull {A : Type 0} (c : AColumn) : List Token → List Token → Filter A → Type 0 where
  is_null : {rest : List Token} → SpellsNull c (Keyword word.Null ∷ rest) rest (filter.IsNull c)
  is_not_null : {rest : List Token} {made : Filter A} → IsNot (filter.IsNull c) made
      → SpellsNull c (Keyword word.Not ∷ Keyword word.Null ∷ rest) rest made

-- a predicate about a subject, after the subject
pub data SpellsOf {A : Type 0} (s : CharacterExpression) : List Token → List Token → Filter A → Type 0 where
  binary_comparison : {comparison : Comparison} {words rest : List Token} {made : Filter A} → SpellsComparison s comparison words rest made
      → SpellsOf s (Compared comparison ∷ words) rest made
  negatable : {words rest : List Token} {made : Filter A} → SpellsNegatable s words rest made → SpellsOf s words rest made
  negated : {words rest : List Token} {inner made : Filter A} → SpellsNegatable s words rest inner → IsNot inner made
      → SpellsOf s (Keyword word.Not ∷ words) rest made
  null_test : {words rest : List Token} {c : AColumn} {made : Filter A} → column_of s ≡ Some c → SpellsNull c words rest made
      → SpellsOf s (Keyword word.Is ∷ words) rest made

-- characterLiteral, which may be in CASEI and ACCENTI
pub record IsTextLiteral (words rest : List Token) : Type 0 where
  pub depth : ℕ
  pub folding : Folding
  pub inner : List Token
  pub opens : Opens depth folding words inner
  pub few : depth ≤ 64
  pub inside : BeginsText inner (closed depth rest)

-- the comparison of the literal at the start with a subject: that of the subject with the literal, with its sides exchanged
pub record SpellsExchangedComparison {A : Type 0} (start : List Token) (k : Comparison) (words rest : List Token) (made : Filter A) : Type 0 where
  pub s : CharacterExpression
  pub after : List Token
  pub is_subject : IsSubject s words rest
  pub is_comparison : SpellsComparison s (converse k) start after made

-- isInListPredicate about the literal at the start, after the literal
pub data SpellsTextAmong {A : Type 0} (start : List Token) : List Token → List Token → Filter A → Type 0 where
  text_in_list : {words rest : List Token} {made : Filter A} → SpellsList (SpellsExchangedComparison start Equal) words (Close ∷ rest) made
      → SpellsTextAmong start (Keyword word.In ∷ Open ∷ words) rest made

-- a predicate about the literal at the start, after the literal
pub data SpellsOfText {A : Type 0} (start : List Token) : List Token → List Token → Filter A → Type 0 where
  text_compared : {k : Comparison} {words rest : List Token} {made : Filter A} → SpellsExchangedComparison start k words rest made
      → SpellsOfText start (Compared k ∷ words) rest made
  text_among : {words rest : List Token} {made : Filter A} → SpellsTextAmong start words rest made → SpellsOfText start words rest made
  text_not_among : {words rest : List Token} {inner made : Filter A} → SpellsTextAmong start words rest inner → IsNot inner made
      → SpellsOfText start (Keyword word.Not ∷ words) rest made

-- a predicate about a text or a number
pub data SpellsRelation {A : Type 0} : List Token → List Token → Filter A → Type 0 where
  of_subject : {s : CharacterExpression} {words middle rest : List Token} {made : Filter A} → IsSubject s words middle → SpellsOf s middle rest made
      → SpellsRelation words rest made
  text_first : {words middle rest : List Token} {made : Filter A} → IsTextLiteral words middle → SpellsOfText words middle rest made
      → SpellsRelation words rest made
  of_number : {words middle rest : List Token} {made : Filter A} → SpellsOfNumber words middle middle rest made → SpellsRelation words rest made
  number_null : {words rest : List Token} {c : NumericColumn} {made : Filter A} → SpellsNull (column.Numeric c) words rest made
      → SpellsRelation (Column (column.Numeric c) ∷ Keyword word.Is ∷ words) rest made
