-- Numeric expressions (CQL2, 21-065r2, arithmetic expressions), with the exact values of integers.
use Rattle.std.specs.Prelude.{ℕ, suc, ◌+◌, ◌-◌, ◌*◌, ◌^◌, ℤ, pos, neg_ℤ, ◌+ℤ◌, ◌-ℤ◌, ◌*ℤ◌, unsigned_abs, Bool, true, ◌&&◌, nat_le, nat_lt, max, Option, Some}
use Rattle.std.specs.Prelude.{None, option_map, int_div, int_rem, if◌then◌else◌, List}
use Rattle.std.specs.Ordering.{int_eq}
use Rattle.tl_records.specs.declared.layout.Places.{Places}
use Rattle.cql2.specs.Column.{number_places, numeric_value}
use Rattle.cql2.specs.declared.column.NumericColumn.{NumericColumn}
use Rattle.cql2.specs.declared.column.NumericColumn.TheVariants as column
use Rattle.cql2.specs.declared.expression.Expression.{Expression}
use Rattle.cql2.specs.declared.expression.Expression.TheVariants.{Literal, Column, Negated', Combined'}
use Rattle.cql2.specs.declared.expression.Operator.{Operator}
use Rattle.cql2.specs.declared.expression.Operator.TheVariants.{Add, Subtract, Multiply, Divide, Remainder}

-- the value of two numbers combined; none, that is NULL, for a division by 0
abbrev pub unless_by_zero : ℤ → ℤ → Option ℤ
unless_by_zero divisor result = if int_eq divisor (pos 0) then None else Some result

abbrev pub combined : Operator → ℤ → ℤ → Option ℤ
combined Add x y = Some (x +ℤ y)
combined Subtract x y = Some (x -ℤ y)
combined Multiply x y = Some (x *ℤ y)
combined Divide x y = unless_by_zero y (int_div x y)
combined Remainder x y = unless_by_zero y (int_rem x y)

-- an operation on values is NULL if one of them is
abbrev pub of_both : {T : Type 0} → (ℤ → ℤ → Option T) → Option ℤ → Option ℤ → Option T
of_both operation (Some x) (Some y) = operation x y
of_both operation x y = None

-- the value of an expression in a record
abbrev pub value_of : {A : Type 0} → Expression A → List ℕ → Option ℤ
value_of (Literal literal) line = Some literal.number
value_of (Column column) line = numeric_value column line
value_of (Negated' p inner) line = option_map neg_ℤ (value_of inner line)
value_of (Combined' operator p first q second) line = of_both (combined operator) (value_of first line) (value_of second line)

-- the greatest absolute value of a column: a number has as many digits as its fields have bytes, and a coordinate has up to 9
abbrev pub width_of : Places → ℕ
width_of places = places.1 + 1 - places.0

abbrev pub column_bound : NumericColumn → ℕ
column_bound (column.Number field) = 10 ^ width_of (number_places field) - 1
column_bound (column.Coordinate place) = 10 ^ 9 - 1

-- the greatest absolute value of an expression, by those of its parts
abbrev pub combined_bound : Operator → ℕ → ℕ → ℕ
combined_bound Add x y = x + y
combined_bound Subtract x y = x + y
combined_bound Multiply x y = x * y
combined_bound Divide x y = x
combined_bound Remainder x y = x

abbrev pub bound : {A : Type 0} → Expression A → ℕ
bound (Literal literal) = unsigned_abs literal.number
bound (Column column) = column_bound column
bound (Negated' p inner) = bound inner
bound (Combined' operator p first q second) = combined_bound operator (bound first) (bound second)

-- how many expressions must be saved while an operand of this depth is computed after another one; a literal isn't computed
abbrev pub saved_for : {A : Type 0} → Expression A → ℕ → ℕ
saved_for (Literal literal) depth = 0
saved_for second depth = suc depth

-- how many expressions must be saved while the last one is computed
abbrev pub depth : {A : Type 0} → Expression A → ℕ
depth (Literal literal) = 0
depth (Column column) = 0
depth (Negated' p inner) = depth inner
depth (Combined' operator p first q second) = max (depth first) (saved_for second (depth second))

-- no part of an expression can leave 63 bits
abbrev pub is_bounded : {A : Type 0} → Expression A → Bool
is_bounded (Literal literal) = nat_lt (unsigned_abs literal.number) (2 ^ 62)
is_bounded (Column column) = true
is_bounded (Negated' p inner) = is_bounded inner
is_bounded (Combined' operator p first q second) =
    is_bounded first && is_bounded second && nat_lt (combined_bound operator (bound first) (bound second)) (2 ^ 62)

-- The greatest depth of an expression. In a comparison one more is saved: the first of its two expressions.
abbrev pub MAX_DEPTH : ℕ
MAX_DEPTH = 2

abbrev pub is_exact : {A : Type 0} → Expression A → Bool
is_exact expression = is_bounded expression && nat_le (depth expression) MAX_DEPTH
