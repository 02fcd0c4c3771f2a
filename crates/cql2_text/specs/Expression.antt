-- Numeric expressions in terms of their tokens (CQL2, 21-065r2, annex B: arithmeticExpression, arithmeticTerm and arithmeticFactor).
use Rattle.std.specs.Prelude.{◌≡◌, ℕ, suc, ◌+◌, ◌^◌, ◌<◌, Bool, true, false, List, [], ◌∷◌, Option, Some, None}
use Rattle.std.specs.declared.boxed.Box.{Box}
use Rattle.cql2.specs.Expression.{bound, combined_bound}
use Rattle.cql2.specs.declared.column.Column.TheVariants as column
use Rattle.cql2.specs.declared.column.NumericColumn.{NumericColumn}
use Rattle.cql2.specs.declared.expression.Expression.{Expression}
use Rattle.cql2.specs.declared.expression.Expression.TheVariants as expression
use Rattle.cql2.specs.declared.expression.Number.{Number as ANumber}
use Rattle.cql2.specs.declared.expression.Operator.{Operator}
use Rattle.cql2.specs.declared.expression.Operator.TheVariants.{Add, Subtract, Multiply, Divide, Remainder}
use Rattle.cql2.specs.declared.number.Literal.{Literal}
use Rattle.cql2_text.specs.Numeral.{IsNumber}
use Rattle.cql2_text.specs.Unit.{allows, is_in}
use Rattle.cql2_text.specs.declared.expression.Level.{Level}
use Rattle.cql2_text.specs.declared.expression.Level.TheVariants.{Sum, Product}
use Rattle.cql2_text.specs.declared.unit.Unit.{Unit as AUnit}
use Rattle.cql2_tokens.specs.declared.token.Keyword.TheVariants as word
use Rattle.cql2_tokens.specs.declared.token.Sign.TheVariants.{Plus, Minus, Asterisk, Percent}
use Rattle.cql2_tokens.specs.declared.token.Token.{Token}
use Rattle.cql2_tokens.specs.declared.token.Token.TheVariants.{Keyword, Column, Sign, Open, Close, Number}

-- the operator that a token is
abbrev pub operator_of : Token → Option Operator
operator_of (Sign Plus) = Some Add
operator_of (Sign Minus) = Some Subtract
operator_of (Sign Asterisk) = Some Multiply
operator_of (Sign Percent) = Some Remainder
operator_of (Keyword word.Div) = Some Divide
operator_of token = None

-- `*`, DIV and `%` bind tighter than `+` and `-`
abbrev pub level_of : Operator → Level
level_of Add = Sum
level_of Subtract = Sum
level_of operator = Product

-- a chain of operators of one level, or an operand
pub data Production : Type 0 where
  Chain : Level → Production
  Factor : Production

-- what stands between the operators of a level
abbrev pub part_of : Level → Production
part_of Sum = Chain Product
part_of Product = Factor

-- the number of operators in an expression
abbrev pub operators : {A : Type 0} → Expression A → ℕ
operators (expression.Literal literal) = 0
operators (expression.Column column) = 0
operators (expression.Negated' p inner) = operators inner + 1
operators (expression.Combined' operator p first q second) = operators first + operators second + 1

abbrev pub MAX_OPERATORS : ℕ
MAX_OPERATORS = 64

-- the expression combined of two isn't too long, and its values fit
pub record Fits {A : Type 0} (operator : Operator) (first second : Expression A) : Type 0 where
  pub few : operators first + operators second < MAX_OPERATORS
  pub small : combined_bound operator (bound first) (bound second) < 2 ^ 62

-- the negation of an expression, and two expressions combined
abbrev pub IsOpposite : {A : Type 0} → Expression A → Expression A → Type 0
IsOpposite {A = A} inner made = (p : Box (Unit {0}) A) × (made ≡ expression.Negated' p inner)

abbrev pub IsCombined : {A : Type 0} → Operator → Expression A → Expression A → Expression A → Type 0
IsCombined {A = A} operator first second made =
    (p : Box (Unit {0}) A) × ((q : Box (Unit {0}) A) × (made ≡ expression.Combined' operator p first q second))

-- the tokens begin with an operator of this level
pub record BeginsWith (level : Level) (operator : Operator) (words rest : List Token) : Type 0 where
  pub token : Token
  pub is : words ≡ token ∷ rest
  pub known : operator_of token ≡ Some operator
  pub at_level : level_of operator ≡ level

abbrev pub begins_number : List Token → Bool
begins_number (Number numeral ∷ words) = true
begins_number words = false

-- The tokens, up to the rest, form a production that means the expression in this unit, with parentheses and signs nested at most to this depth.
-- Operators of one level combine from the left. A sign before a number belongs to the number.
pub data SpellsNumber {A : Type 0} (unit : AUnit) : ℕ → Production → List Token → List Token → Expression A → Type 0 where
  literal : {depth : ℕ} {words rest : List Token} {value : Literal} → IsNumber unit words rest value.number
      → SpellsNumber unit depth Factor words rest (expression.Literal value)
  property_name : {depth : ℕ} {rest : List Token} {named : NumericColumn} → is_in unit named ≡ true
      → SpellsNumber unit depth Factor (Column (column.Numeric named) ∷ rest) rest (expression.Column named)
  opposite : {depth : ℕ} {words rest : List Token} {p : Box (Unit {0}) A} {inner : Expression A} → begins_number words ≡ false
      → operators inner < MAX_OPERATORS → SpellsNumber unit depth Factor words rest inner
      → SpellsNumber unit (suc depth) Factor (Sign Minus ∷ words) rest (expression.Negated' p inner)
  grouped : {depth : ℕ} {words rest : List Token} {made : Expression A} → SpellsNumber unit depth (Chain Sum) words (Close ∷ rest) made
      → SpellsNumber unit (suc depth) Factor (Open ∷ words) rest made
  one_part : {depth : ℕ} {level : Level} {words rest : List Token} {made : Expression A} → SpellsNumber unit depth (part_of level) words rest made
      → SpellsNumber unit depth (Chain level) words rest made
  combined : {depth : ℕ} {level : Level} {token : Token} {operator : Operator} {words middle rest : List Token} {p q : Box (Unit {0}) A}
      {first second : Expression A} → operator_of token ≡ Some operator → level_of operator ≡ level → allows unit operator ≡ true
      → SpellsNumber unit depth (Chain level) words (token ∷ middle) first → SpellsNumber unit depth (part_of level) middle rest second
      → Fits operator first second → SpellsNumber unit depth (Chain level) words rest (expression.Combined' operator p first q second)

-- an operator of this level, or of one that binds tighter
abbrev pub binds : Level → Option Level → Bool
binds Sum (Some level) = true
binds Product (Some Product) = true
binds level other = false

abbrev pub level_at : Option Operator → Option Level
level_at (Some operator) = Some (level_of operator)
level_at None = None

-- a chain of operators goes on
abbrev pub goes_on : Level → List Token → Bool
goes_on level [] = false
goes_on level (token ∷ rest) = binds level (level_at (operator_of token))

-- what stands between the operators of a level goes on
abbrev pub part_goes_on : Level → List Token → Bool
part_goes_on Sum words = goes_on Product words
part_goes_on Product words = false

-- the nesting of parentheses and signs in an expression
abbrev pub MAX_NESTED : ℕ
MAX_NESTED = 64

-- an expression, which is as long as possible
pub record IsExpression {A : Type 0} (unit : AUnit) (words rest : List Token) (number : ANumber A) : Type 0 where
  pub spelled : SpellsNumber unit MAX_NESTED (Chain Sum) words rest number.expression
  pub longest : goes_on Sum rest ≡ false
