-- A numeric expression's code computes its value: no part of a bounded expression leaves 64 bits.
use Rattle.std.proofs.Common.{◌≡◌, ℕ, ◌+◌, ◌*◌, ◌<◌, ◌≤◌, ◌^◌, ℤ, pos, neg_ℤ, ◌+ℤ◌, ◌-ℤ◌, ◌*ℤ◌, Bool, true, false, ◌&&◌}
use Rattle.std.proofs.Common.{Option, Some, None, IfSome, option_map, if◌then◌else◌, refl, sym, ap, ◌∙◌, subst, arith, lit<}
use Rattle.std.specs.Prelude.{FitsSigned, int_div, int_rem, unsigned_abs}
use Rattle.std.specs.Int.{w64, cast_unsigned}
use Rattle.std.specs.Ordering.{int_eq}
use Rattle.std.proofs.Math.Nat.{mul-le-mul}
use Rattle.std.proofs.lemmas.Bool.{and_parts, ltb-true}
use Rattle.std.proofs.lemmas.Int.{unsigned_abs-mul}
use Rattle.bpf_helpers.specs.Meaning.{coordinate_word}
use Rattle.bpf_insn.specs.Arithmetic.{immediate_operand, negate, result_of}
use Rattle.bpf_insn.specs.declared.instruction.Width.TheVariants.{Bits64}
use Rattle.tl_segments.specs.Segment.{SegmentParts}
use Rattle.cql2.specs.Column.{numeric_value}
use Rattle.cql2.specs.Expression.{bound, column_bound, combined, combined_bound, is_bounded, of_both, value_of}
use Rattle.cql2.specs.Truth.{is}
use Rattle.cql2.specs.declared.column.NumberColumn.{NumberColumn}
use Rattle.cql2.specs.declared.column.NumberColumn.TheVariants.{Tlid}
use Rattle.cql2.specs.declared.column.NumericColumn.{NumericColumn}
use Rattle.cql2.specs.declared.column.NumericColumn.TheVariants as column
use Rattle.cql2.specs.declared.expression.Expression.{Expression}
use Rattle.cql2.specs.declared.expression.Expression.TheVariants.{Literal, Column, Negated', Combined'}
use Rattle.cql2.specs.declared.expression.Operator.{Operator}
use Rattle.cql2.specs.declared.expression.Operator.TheVariants.{Add, Subtract, Multiply, Divide, Remainder}
use Rattle.cql2_code.specs.Columns.{number_of}
use Rattle.cql2_code.specs.Expressions.{operation_of, word_of}
use Rattle.cql2_code.specs.Question.{value}
use Rattle.cql2_code.proofs.ColumnBounds.{IsUpTo, column_up_to}
use Rattle.cql2_code.proofs.NumberLemmas.{word_read}
use Rattle.cql2_code.proofs.WordLemmas.{IsWord, abs_add, abs_divide, abs_neg, abs_remainder, abs_subtract, add_is, divide_is}
use Rattle.cql2_code.proofs.WordLemmas.{fits_by, multiply_is, negate_is, remainder_is, subtract_is, written}

-- a word is a value exactly, which is no greater than its bound
pub record IsExactly (most word : ℕ) (number : ℤ) : Type 0 where
  pub word_is : IsWord word number
  pub small : unsigned_abs number ≤ most

-- each value of an expression is exact
abbrev AreExactly : ℕ → ℕ → Option ℤ → Type 0
AreExactly most word found = (number : ℤ) → found ≡ Some number → IsExactly most word number

pub same_number : (x y : ℤ) → Some x ≡ Some y → x ≡ y
same_number x y e = cc

not_some : {T : Type 0} (x : ℤ) → None ≡ Some x → T
not_some x e = absurd cc

-- the bound of a bounded expression

field_few : (field : NumberColumn) → column_bound (column.Number field) < 2 ^ 62
field_few Tlid = lit< tt
field_few column = lit< tt

column_few : (column : NumericColumn) → column_bound column < 2 ^ 62
column_few (column.Number field) = field_few field
column_few (column.Coordinate place) = lit< tt

pub few : {A : Type 0} (expression : Expression A) → is_bounded expression ≡ true → bound expression < 2 ^ 62
few (Literal literal) bounded = ltb-true _ _ bounded
few (Column column) bounded = column_few column
few (Negated' p inner) bounded = few inner bounded
few (Combined' operator p first q second) bounded = ltb-true _ _ (and_parts (is_bounded first && is_bounded second) _ bounded).1

-- the parts of an expression

literal_exactly : (literal : ℤ) → FitsSigned w64 literal → AreExactly (unsigned_abs literal) (immediate_operand literal) (Some literal)
literal_exactly literal fits number is =
    subst (IsExactly (unsigned_abs literal) (immediate_operand literal)) (same_number literal number is)
    (record { word_is = written literal fits; small = omega arith })

column_exactly : (column : NumericColumn) (segment : SegmentParts)
    → AreExactly (column_bound column) (value (number_of column) segment) (numeric_value column segment.bytes)
column_exactly column segment number found =
    let below : IfSome (Some number) (IsUpTo (column_bound column)) =
    subst (λ (value : Option ℤ). IfSome value (IsUpTo (column_bound column))) found (column_up_to column segment.bytes) in
    let word : value (number_of column) segment ≡ cast_unsigned w64 number = word_read column segment ∙ ap coordinate_word found in
    let less = column_few column in
    record {
      word_is = subst (λ (n : ℕ). IsWord n number) (sym word) (written number (fits_by number (column_bound column) below (omega arith)));
      small = below;
    }

negated_exactly : (most word : ℕ) (found : Option ℤ) → most < 2 ^ 62 → AreExactly most word found
    → AreExactly most (negate Bits64 word) (option_map neg_ℤ found)
negated_exactly most word None less exact number is = not_some number is
negated_exactly most word (Some x) less exact number is =
    let here = exact x refl in
    let same = abs_neg x in
    let below = here.small in
    let small : unsigned_abs (neg_ℤ x) ≤ most = omega arith in
    subst (IsExactly most (negate Bits64 word)) (same_number (neg_ℤ x) number is)
    (record { word_is = negate_is here.word_is (fits_by (neg_ℤ x) most small (omega arith)); small = small })

module _ (a b m n : ℕ) (x y : ℤ) (first : IsExactly a m x) (second : IsExactly b n y) where
  -- an operation's result is exact if it is no greater than a bound that fits
  by_word : (most word : ℕ) (z other : ℤ) → Some other ≡ Some z → most < 2 ^ 63 → unsigned_abs other ≤ most
      → (FitsSigned w64 other → IsWord word other) → IsExactly most word z
  by_word most word z other is less small made =
      subst (IsExactly most word) (same_number other z is) (record { word_is = made (fits_by other most small less); small = small })

  -- a division's result is exact unless it divides by 0
  unless_zero : (word : ℕ) (z other : ℤ) (zero : Bool) → int_eq y (pos 0) ≡ zero → (if zero then None else Some other) ≡ Some z
      → a < 2 ^ 63 → unsigned_abs other ≤ unsigned_abs x → (int_eq y (pos 0) ≡ false → FitsSigned w64 other → IsWord word other)
      → IsExactly a word z
  unless_zero word z other true none is less small made = not_some z is
  unless_zero word z other false some is less small made =
      let below = first.small in by_word a word z other is less (omega arith) (made some)

  operated : (operator : Operator) (z : ℤ) → combined_bound operator a b < 2 ^ 63 → combined operator x y ≡ Some z
      → IsExactly (combined_bound operator a b) (result_of (operation_of operator) Bits64 m n) z
  operated Add z less is =
      let sum = abs_add x y in
      let one = first.small in
      let two = second.small in
      by_word (a + b) _ z (x +ℤ y) is less (omega arith) (add_is first.word_is second.word_is)
  operated Subtract z less is =
      let sum = abs_subtract x y in
      let one = first.small in
      let two = second.small in
      by_word (a + b) _ z (x -ℤ y) is less (omega arith) (subtract_is first.word_is second.word_is)
  operated Multiply z less is =
      let product = unsigned_abs-mul x y in
      let below : unsigned_abs x * unsigned_abs y ≤ a * b = mul-le-mul first.small second.small in
      by_word (a * b) _ z (x *ℤ y) is less (omega arith) (multiply_is first.word_is second.word_is)
  operated Divide z less is =
      unless_zero _ z (int_div x y) (int_eq y (pos 0)) refl is less (abs_divide x y) (divide_is first.word_is second.word_is)
  operated Remainder z less is =
      unless_zero _ z (int_rem x y) (int_eq y (pos 0)) refl is less (abs_remainder x y) (remainder_is first.word_is second.word_is)

module _ (operator : Operator) (a b m n : ℕ) (less : combined_bound operator a b < 2 ^ 63) where
  combined_exactly : (left right : Option ℤ) → AreExactly a m left → AreExactly b n right
      → AreExactly (combined_bound operator a b) (result_of (operation_of operator) Bits64 m n) (of_both (combined operator) left right)
  combined_exactly (Some x) (Some y) first second number is = operated a b m n x y (first x refl) (second y refl) operator number less is
  combined_exactly (Some x) None first second number is = not_some number is
  combined_exactly None right first second number is = not_some number is

-- an expression's code computes its value
pub computes_exactly : {A : Type 0} (expression : Expression A) (segment : SegmentParts) → is_bounded expression ≡ true
    → AreExactly (bound expression) (word_of expression segment) (value_of expression segment.bytes)
computes_exactly (Literal literal) segment bounded = literal_exactly literal.number literal.fits
computes_exactly (Column column) segment bounded = column_exactly column segment
computes_exactly (Negated' p inner) segment bounded =
    negated_exactly (bound inner) (word_of inner segment) (value_of inner segment.bytes) (few inner bounded) (computes_exactly inner segment bounded)
computes_exactly (Combined' operator p first q second) segment bounded =
    let parts = and_parts (is_bounded first && is_bounded second) _ bounded in
    let both = and_parts (is_bounded first) (is_bounded second) parts.0 in
    let less = ltb-true (combined_bound operator (bound first) (bound second)) (2 ^ 62) parts.1 in
    combined_exactly operator (bound first) (bound second) (word_of first segment) (word_of second segment) (omega arith)
    (value_of first segment.bytes) (value_of second segment.bytes) (computes_exactly first segment both.0) (computes_exactly second segment both.1)
