-- Comparisons of numeric expressions (CQL2, 21-065r2, binaryComparisonPredicate, isBetweenPredicate and isInListPredicate).
use Rattle.std.specs.Prelude.{◌≡◌, List, ◌∷◌, Option, Some, None}
use Rattle.cql2.specs.declared.column.NumericColumn.{NumericColumn}
use Rattle.cql2.specs.declared.expression.Expression.{Expression}
use Rattle.cql2.specs.declared.expression.Expression.TheVariants as expression
use Rattle.cql2.specs.declared.expression.Number.{Number}
use Rattle.cql2.specs.declared.filter.Comparison.{Comparison}
use Rattle.cql2.specs.declared.filter.Comparison.TheVariants.{Equal, NotEqual, Less, LessOrEqual, Greater, GreaterOrEqual}
use Rattle.cql2.specs.declared.filter.Filter.{Filter}
use Rattle.cql2.specs.declared.filter.Filter.TheVariants as filter
use Rattle.cql2_text.specs.Connective.{IsBoth, IsEither, IsNot}
use Rattle.cql2_text.specs.Expression.{IsExpression}
use Rattle.cql2_text.specs.Unit.{unit_of}
use Rattle.cql2_text.specs.declared.unit.Unit.{Unit}
use Rattle.cql2_tokens.specs.declared.token.Keyword.TheVariants as word
use Rattle.cql2_tokens.specs.declared.token.Token.{Token}
use Rattle.cql2_tokens.specs.declared.token.Token.TheVariants.{Keyword, Compared, Open, Close, Comma}

-- the first of two that there is
abbrev pub or_else : Option NumericColumn → Option NumericColumn → Option NumericColumn
or_else (Some column) other = Some column
or_else None other = other

-- the first column in an expression
abbrev pub first_column : {A : Type 0} → Expression A → Option NumericColumn
first_column (expression.Literal literal) = None
first_column (expression.Column column) = Some column
first_column (expression.Negated' p inner) = first_column inner
first_column (expression.Combined' operator p first q second) = or_else (first_column first) (first_column second)

-- the comparison with its sides exchanged
abbrev pub converse : Comparison → Comparison
converse Equal = Equal
converse NotEqual = NotEqual
converse Less = Greater
converse LessOrEqual = GreaterOrEqual
converse Greater = Less
converse GreaterOrEqual = LessOrEqual

-- the comparison of two expressions, with the column first where one side is a column and the other a literal
abbrev pub compared_as : {A : Type 0} → Number A → Comparison → Number A → Expression A → Expression A → Filter A
compared_as first comparison second (expression.Column column) (expression.Literal literal) = filter.CompareNumber column comparison literal
compared_as first comparison second (expression.Literal literal) (expression.Column column) =
    filter.CompareNumber column (converse comparison) literal
compared_as first comparison second one other = filter.CompareNumbers first comparison second

abbrev pub comparison_of : {A : Type 0} → Number A → Comparison → Number A → Filter A
comparison_of first comparison second = compared_as first comparison second first.expression second.expression

-- the comparison of the expression from the start to the end with the one after the operator; the first column in them has their unit
pub record SpellsCompared {A : Type 0} (start «end» : List Token) (comparison : Comparison) (words rest : List Token) (made : Filter A) : Type 0 where
  pub first : Number A
  pub second : Number A
  pub unit : Unit
  pub in_unit : unit ≡ unit_of (or_else (first_column first.expression) (first_column second.expression))
  pub is_first : IsExpression unit start «end» first
  pub is_second : IsExpression unit words rest second
  pub is : made ≡ comparison_of first comparison second

-- isBetweenPredicate, after BETWEEN: at least one number and at most another
pub record SpellsBetween {A : Type 0} (start «end» words rest : List Token) (made : Filter A) : Type 0 where
  pub low : Filter A
  pub high : Filter A
  pub middle : List Token
  pub at_least : SpellsCompared start «end» GreaterOrEqual words (Keyword word.And ∷ middle) low
  pub at_most : SpellsCompared start «end» LessOrEqual middle rest high
  pub both : IsBoth low high made

-- inList of numbers, without its parentheses
pub data SpellsNumbers {A : Type 0} (start «end» words : List Token) : List Token → Filter A → Type 0 where
  one : {rest : List Token} {made : Filter A} → SpellsCompared start «end» Equal words rest made → SpellsNumbers start «end» words rest made
  more : {middle rest : List Token} {first second made : Filter A} → SpellsNumbers start «end» words (Comma ∷ middle) first
      → SpellsCompared start «end» Equal middle rest second → IsEither first second made → SpellsNumbers start «end» words rest made

-- the predicates about a number that NOT may precede
pub data SpellsAmong {A : Type 0} (start «end» : List Token) : List Token → List Token → Filter A → Type 0 where
  is_between : {words rest : List Token} {made : Filter A} → SpellsBetween start «end» words rest made
      → SpellsAmong start «end» (Keyword word.Between ∷ words) rest made
  is_in_list : {words rest : List Token} {made : Filter A} → SpellsNumbers start «end» words (Close ∷ rest) made
      → SpellsAmong start «end» (Keyword word.In ∷ Open ∷ words) rest made

-- a predicate about the number from the start to the end, after it
pub data SpellsOfNumber {A : Type 0} (start «end» : List Token) : List Token → List Token → Filter A → Type 0 where
  comparison : {sign : Comparison} {words rest : List Token} {made : Filter A} → SpellsCompared start «end» sign words rest made
      → SpellsOfNumber start «end» (Compared sign ∷ words) rest made
  among : {words rest : List Token} {made : Filter A} → SpellsAmong start «end» words rest made → SpellsOfNumber start «end» words rest made
  not_among : {words rest : List Token} {inner made : Filter A} → SpellsAmong start «end» words rest inner → IsNot inner made
      → SpellsOfNumber start «end» (Keyword word.Not ∷ words) rest made
