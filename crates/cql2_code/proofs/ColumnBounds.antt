-- A numeric column's value is no greater than its bound.
use Rattle.std.proofs.Common.{◌≡◌, ℕ, zero, suc, ◌-◌, ◌<◌, ◌≤◌, ◌^◌, ◌==◌, ℤ, pos, Bool, true, false, List, drop, slice_index, Option}
use Rattle.std.proofs.Common.{Some, None, IfSome, option_map, if◌then◌else◌, refl, arith}
use Rattle.std.specs.Prelude.{unsigned_abs}
use Rattle.std.specs.Ordering.{int_eq}
use Rattle.numerals.proofs.NumeralLemmas.{decimal_in-lt}
use Rattle.numerals.specs.Numeral.{decimal_in}
use Rattle.tl_fields.proofs.NumberLemmas.{number_of_lt}
use Rattle.tl_fields.specs.Coordinate.{coordinate_of, negative}
use Rattle.tl_fields.specs.Number.{number_of, trim}
use Rattle.tl_records.specs.Layout.{field_at}
use Rattle.cql2.specs.Column.{number_places, numeric_value, unless_zero}
use Rattle.cql2.specs.Expression.{column_bound}
use Rattle.cql2.specs.declared.column.NumericColumn.{NumericColumn}
use Rattle.cql2.specs.declared.column.NumericColumn.TheVariants.{Number, Coordinate}

-- the absolute value is at most this
abbrev pub IsUpTo : ℕ → ℤ → Type 0
IsUpTo most number = unsigned_abs number ≤ most

number_up_to : (most : ℕ) (found : Option ℕ) → ((n : ℕ) → found ≡ Some n → n ≤ most) → IfSome (option_map pos found) (IsUpTo most)
number_up_to most None few = tt
number_up_to most (Some n) few = few n refl

positive_up_to : (amount : Option ℕ) → IfSome amount (λ n. n < 10 ^ 9) → IfSome (option_map pos amount) (IsUpTo (10 ^ 9 - 1))
positive_up_to None small = tt
positive_up_to (Some n) small = omega arith

negative_up_to : (amount : Option ℕ) → IfSome amount (λ n. n < 10 ^ 9) → IfSome (option_map negative amount) (IsUpTo (10 ^ 9 - 1))
negative_up_to None small = tt
negative_up_to (Some zero) small = omega arith
negative_up_to (Some (suc n)) small = omega arith

sign_up_to : (text : List ℕ) (minus plus : Bool) → IfSome
    (if minus then option_map negative (decimal_in 9 (drop 1 text)) else
    (if plus then option_map pos (decimal_in 9 (drop 1 text)) else option_map pos (decimal_in 9 text))) (IsUpTo (10 ^ 9 - 1))
sign_up_to text true plus = negative_up_to (decimal_in 9 (drop 1 text)) (decimal_in-lt 9 (drop 1 text))
sign_up_to text false true = positive_up_to (decimal_in 9 (drop 1 text)) (decimal_in-lt 9 (drop 1 text))
sign_up_to text false false = positive_up_to (decimal_in 9 text) (decimal_in-lt 9 text)

coordinate_up_to : (field : List ℕ) → IfSome (coordinate_of field) (IsUpTo (10 ^ 9 - 1))
unfolding coordinate_of
coordinate_up_to field = sign_up_to (trim field) (slice_index (trim field) 0 == 45) (slice_index (trim field) 0 == 43)

unless_zero_up_to : (most : ℕ) (found : Option ℤ) → IfSome found (IsUpTo most) → IfSome (unless_zero found) (IsUpTo most)
unless_zero_up_to most None small = tt
unless_zero_up_to most (Some millionths) small = by_zero (int_eq millionths (pos 0))
  where
    by_zero : (zero : Bool) → IfSome (if zero then None else Some millionths) (IsUpTo most)
    by_zero true = tt
    by_zero false = small

pub column_up_to : (column : NumericColumn) (line : List ℕ) → IfSome (numeric_value column line) (IsUpTo (column_bound column))
column_up_to (Number column) line =
    number_up_to _ (number_of (field_at (number_places column) line))
    (λ n found. let below = number_of_lt line (number_places column).0 (number_places column).1 n found in omega arith)
column_up_to (Coordinate column) line = unless_zero_up_to _ _ (coordinate_up_to _)
