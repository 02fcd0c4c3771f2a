-- Tests compare numbers as signed numbers, and have the answers of a comparison with a numeric column.
use Rattle.std.proofs.Common.{◌≡◌, ℕ, zero, suc, ◌<◌, ◌^◌, ◌==◌, ℤ, pos, negsuc, Bool, true, false, not, nat_le, nat_lt, List, drop}
use Rattle.std.proofs.Common.{slice_index, Option, Some, None, IfSome, is_none, is_some, option_map, if◌then◌else◌, refl, sym}
use Rattle.std.proofs.Common.{ap, ◌∙◌, arith, rules}
use Rattle.std.specs.Prelude.{FitsSigned, int_lt, int_le}
use Rattle.std.specs.Int.{w64, cast_signed, cast_unsigned}
use Rattle.std.specs.Ordering.{int_eq}
use Rattle.std.proofs.lemmas.Bool.Decides.{Decides-eqb, Decides-int_eq, Decides-like, nat_tests, same_from_decides}
use Rattle.std.proofs.lemmas.Int.{to_z-of_z}
use Rattle.bpf_helpers.specs.Meaning.{coordinate, coordinate_word, field_number, or_zero, truth as number_of_truth}
use Rattle.bpf_helpers.proofs.CallLemmas.{number_below}
use Rattle.bpf_insn.specs.Arithmetic.{condition_holds, low_bits}
use Rattle.bpf_insn.specs.declared.instruction.Width.TheVariants.{Bits64}
use Rattle.numerals.proofs.NumeralLemmas.{decimal_in-lt}
use Rattle.tl_fields.specs.Coordinate.{coordinate_of, negative}
use Rattle.numerals.specs.Numeral.{decimal_in}
use Rattle.tl_fields.specs.Number.{number_of, trim}
use Rattle.tl_records.specs.Layout.{field_at}
use Rattle.tl_segments.specs.Segment.{SegmentParts}
use Rattle.cql2.specs.Column.{coordinate_places, number_places, numeric_value, unless_zero}
use Rattle.cql2.specs.Filter.{compares}
use Rattle.cql2.specs.Truth.{is}
use Rattle.cql2.specs.declared.column.CoordinateColumn.{CoordinateColumn}
use Rattle.cql2.specs.declared.column.CoordinateColumn.TheVariants.{Frlong}
use Rattle.cql2.specs.declared.column.NumberColumn.{NumberColumn}
use Rattle.cql2.specs.declared.column.NumberColumn.TheVariants.{Tlid}
use Rattle.cql2.specs.declared.column.NumericColumn.{NumericColumn}
use Rattle.cql2.specs.declared.column.NumericColumn.TheVariants.{Number, Coordinate}
use Rattle.cql2.specs.declared.filter.Comparison.{Comparison}
use Rattle.cql2.specs.declared.filter.Comparison.TheVariants.{Equal, NotEqual, Less, LessOrEqual, Greater, GreaterOrEqual}
use Rattle.cql2_code.specs.Layout.{opposite}
use Rattle.cql2_code.specs.Lowering.{compares_number, has_value, holds_of_zero, number_of as subject_of, test}
use Rattle.cql2_code.specs.Question.{Joined, answer, condition_of, coordinate_id, field_id, joined, value}
use Rattle.cql2_code.proofs.JoinLemmas.{is_it, isnt_it, joined_answers, not_not}

-- signed 64-bit numbers are compared by value

word_small : (number : ℤ) → FitsSigned w64 number → cast_unsigned w64 number < 2 ^ 64
word_small number fits = search rules

unchanged : (number : ℤ) → FitsSigned w64 number → low_bits w64 (cast_unsigned w64 number) ≡ cast_unsigned w64 number
unchanged number fits = let small = word_small number fits in omega arith

-- a number, written as 64 bits and read back
abbrev read : ℤ → ℤ
read number = cast_signed w64 (low_bits w64 (cast_unsigned w64 number))

signed : (number : ℤ) → FitsSigned w64 number → read number ≡ number
signed number fits = ap (cast_signed w64) (unchanged number fits) ∙ to_z-of_z w64 number fits

equal_words : (x y : ℤ) → FitsSigned w64 x → FitsSigned w64 y
    → (low_bits w64 (cast_unsigned w64 x) == low_bits w64 (cast_unsigned w64 y)) ≡ int_eq x y
equal_words x y fits others = same_from_decides _ _
    (Decides-like _ (λ same. sym (signed x fits) ∙ ap (cast_signed w64) same ∙ signed y others)
    (λ same. ap (λ (z : ℤ). low_bits w64 (cast_unsigned w64 z)) same) (Decides-eqb _ _))
    (Decides-int_eq x y)

pub compared : (comparison : Comparison) (x y : ℤ) → FitsSigned w64 x → FitsSigned w64 y
    → condition_holds (condition_of comparison) Bits64 (cast_unsigned w64 x) (cast_unsigned w64 y) ≡ compares comparison x y
compared Equal x y fits others = equal_words x y fits others
compared NotEqual x y fits others = ap not (equal_words x y fits others)
compared Less x y fits others = ap (λ (z : ℤ). int_lt z (read y)) (signed x fits) ∙ ap (int_lt x) (signed y others)
compared LessOrEqual x y fits others = ap (λ (z : ℤ). int_le z (read y)) (signed x fits) ∙ ap (int_le x) (signed y others)
compared Greater x y fits others = ap (λ (z : ℤ). int_lt z (read x)) (signed y others) ∙ ap (int_lt y) (signed x fits)
compared GreaterOrEqual x y fits others = ap (λ (z : ℤ). int_le z (read x)) (signed y others) ∙ ap (int_le y) (signed x fits)

-- numbers of 63 bits fit
pub small_fits : (n : ℕ) → n < 2 ^ 63 → FitsSigned w64 (pos n)
small_fits n small = search rules

-- the opposite of a comparison holds if the comparison doesn't

less_is_not : (m n : ℕ) → nat_lt m n ≡ not (nat_le n m)
less_is_not m n = grind (arith, nat_tests)

int_less : (x y : ℤ) → int_lt x y ≡ not (int_le y x)
int_less (pos m) (pos n) = less_is_not m n
int_less (pos m) (negsuc n) = refl
int_less (negsuc m) (pos n) = refl
int_less (negsuc m) (negsuc n) = less_is_not n m

int_at_most : (x y : ℤ) → int_le x y ≡ not (int_lt y x)
int_at_most x y = sym (ap not (int_less y x) ∙ not_not (int_le x y))

pub opposite_compares : (comparison : Comparison) (x y : ℤ)
    → compares (opposite comparison) x y ≡ not (compares comparison x y)
opposite_compares Equal x y = refl
opposite_compares NotEqual x y = sym (not_not _)
opposite_compares Less x y = int_at_most y x
opposite_compares LessOrEqual x y = int_less y x
opposite_compares Greater x y = int_at_most x y
opposite_compares GreaterOrEqual x y = int_less x y

-- helper functions return a column's number

number_read : (column : NumberColumn) (line : List ℕ)
    → field_number line (field_id column) ≡ number_of (field_at (number_places column) line)
number_read Tlid line = refl
number_read column line = refl

coordinate_read : (column : CoordinateColumn) (line : List ℕ)
    → coordinate line (coordinate_id column) ≡ coordinate_word (coordinate_of (field_at (coordinate_places column) line))
coordinate_read Frlong line = refl
coordinate_read column line = refl

word_of_number : (found : Option ℕ) → or_zero found ≡ coordinate_word (option_map pos found)
word_of_number None = refl
word_of_number (Some n) = refl

unless_zero_by : (millionths : ℤ) (zero : Bool) → int_eq millionths (pos 0) ≡ zero
    → cast_unsigned w64 millionths ≡ coordinate_word (if zero then None else Some millionths)
unless_zero_by millionths true is = ap (cast_unsigned w64) ((Decides-int_eq millionths (pos 0)).0 is)
unless_zero_by millionths false is = refl

word_unless_zero : (found : Option ℤ) → coordinate_word found ≡ coordinate_word (unless_zero found)
word_unless_zero None = refl
word_unless_zero (Some millionths) = unless_zero_by millionths _ refl

-- the word that a column's test looks at
pub word_read : (column : NumericColumn) (segment : SegmentParts)
    → value (subject_of column) segment ≡ coordinate_word (numeric_value column segment.bytes)
word_read (Number column) segment =
    ap or_zero (number_read column segment.bytes) ∙ word_of_number (number_of (field_at (number_places column) segment.bytes))
word_read (Coordinate column) segment =
    coordinate_read column segment.bytes ∙ word_unless_zero (coordinate_of (field_at (coordinate_places column) segment.bytes))

-- a column's values fit into 64 bits

number_fits : (found : Option ℕ) → ((n : ℕ) → found ≡ Some n → n < 2 ^ 63) → IfSome (option_map pos found) (FitsSigned w64)
number_fits None small = tt
number_fits (Some n) small = small_fits n (small n refl)

positive_fits : (amount : Option ℕ) → IfSome amount (λ n. n < 10 ^ 9) → IfSome (option_map pos amount) (FitsSigned w64)
positive_fits None small = tt
positive_fits (Some n) small = small_fits n (omega arith)

negative_fits : (amount : Option ℕ) → IfSome amount (λ n. n < 10 ^ 9) → IfSome (option_map negative amount) (FitsSigned w64)
negative_fits None small = tt
negative_fits (Some n) small = by_sign n small
  where
    by_sign : (n : ℕ) → n < 10 ^ 9 → FitsSigned w64 (negative n)
    by_sign zero small = search rules
    by_sign (suc n) small = search rules

sign_fits : (text : List ℕ) (minus plus : Bool) → IfSome
    (if minus then option_map negative (decimal_in 9 (drop 1 text)) else
    (if plus then option_map pos (decimal_in 9 (drop 1 text)) else option_map pos (decimal_in 9 text))) (FitsSigned w64)
sign_fits text true plus = negative_fits (decimal_in 9 (drop 1 text)) (decimal_in-lt 9 (drop 1 text))
sign_fits text false true = positive_fits (decimal_in 9 (drop 1 text)) (decimal_in-lt 9 (drop 1 text))
sign_fits text false false = positive_fits (decimal_in 9 text) (decimal_in-lt 9 text)

coordinate_fits : (field : List ℕ) → IfSome (coordinate_of field) (FitsSigned w64)
unfolding coordinate_of
coordinate_fits field = sign_fits (trim field) (slice_index (trim field) 0 == 45) (slice_index (trim field) 0 == 43)

unless_zero_fits : (found : Option ℤ) → IfSome found (FitsSigned w64) → IfSome (unless_zero found) (FitsSigned w64)
unless_zero_fits None fits = tt
unless_zero_fits (Some millionths) fits = by_zero (int_eq millionths (pos 0))
  where
    by_zero : (zero : Bool) → IfSome (if zero then None else Some millionths) (FitsSigned w64)
    by_zero true = tt
    by_zero false = fits

pub value_fits : (column : NumericColumn) (line : List ℕ) → IfSome (numeric_value column line) (FitsSigned w64)
value_fits (Number column) line = number_fits _ (λ n found. let small = number_below _ n found in omega arith)
value_fits (Coordinate column) line = unless_zero_fits _ (coordinate_fits _)

-- a column has a number

has_number : (found : Option ℕ)
    → condition_holds (condition_of NotEqual) Bits64 (number_of_truth (is_some found)) 0 ≡ is_some (option_map pos found)
has_number None = refl
has_number (Some n) = refl

has_coordinate : (found : Option ℤ) → IfSome found (FitsSigned w64)
    → condition_holds (condition_of NotEqual) Bits64 (coordinate_word found) 0 ≡ is_some (unless_zero found)
has_coordinate None fits = refl
has_coordinate (Some millionths) fits =
    compared NotEqual millionths (pos 0) fits (small_fits 0 (omega arith)) ∙ by_zero (int_eq millionths (pos 0))
  where
    by_zero : (zero : Bool) → not zero ≡ is_some (if zero then None else Some millionths)
    by_zero true = refl
    by_zero false = refl

pub has_value_rightly : (column : NumericColumn) (segment : SegmentParts)
    → answer (has_value column) segment ≡ is_some (numeric_value column segment.bytes)
has_value_rightly (Number column) segment =
    ap (λ (found : Option ℕ). condition_holds (condition_of NotEqual) Bits64 (number_of_truth (is_some found)) 0) (number_read column segment.bytes)
    ∙ has_number (number_of (field_at (number_places column) segment.bytes))
has_value_rightly (Coordinate column) segment =
    ap (λ (word : ℕ). condition_holds (condition_of NotEqual) Bits64 word 0) (coordinate_read column segment.bytes)
    ∙ has_coordinate (coordinate_of (field_at (coordinate_places column) segment.bytes)) (coordinate_fits _)

pub none_is : {X : Type 0} (found : Option X) → not (is_some found) ≡ is_none found
none_is None = refl
none_is (Some value) = refl

-- the comparison of a word with a literal
abbrev is_so : Comparison → ℕ → ℤ → Bool
is_so comparison word literal = condition_holds (condition_of comparison) Bits64 word (cast_unsigned w64 literal)

-- the comparison of a value, if there is one, with a literal
abbrev pub compared_value : Comparison → ℤ → Option ℤ → Option Bool
compared_value comparison literal found = option_map (λ number. compares comparison number literal) found

word_compares : (comparison : Comparison) (literal : ℤ) (found : Option ℤ) → IfSome found (FitsSigned w64) → FitsSigned w64 literal
    → joined true (is_some found) (is_so comparison (coordinate_word found) literal) ≡ is (compared_value comparison literal found) true
word_compares comparison literal None fits others = refl
word_compares comparison literal (Some number) fits others = compared comparison number literal fits others ∙ is_it _

-- if the comparison doesn't hold for 0, a missing value needs no separate test
word_alone : (comparison : Comparison) (literal : ℤ) (found : Option ℤ) → IfSome found (FitsSigned w64) → FitsSigned w64 literal
    → holds_of_zero comparison literal ≡ false
    → is_so comparison (coordinate_word found) literal ≡ is (compared_value comparison literal found) true
word_alone comparison literal None fits others fails = compared comparison (pos 0) literal (small_fits 0 (omega arith)) others ∙ fails
word_alone comparison literal (Some number) fits others fails = compared comparison number literal fits others ∙ is_it _

module _ (column : NumericColumn) (comparison : Comparison) (literal : ℤ) (segment : SegmentParts) (fits : FitsSigned w64 literal) where
  by_zero : (holds : Bool) → holds_of_zero comparison literal ≡ holds
      → answer (if holds then Joined true (has_value column) (test (subject_of column) comparison literal)
      else test (subject_of column) comparison literal) segment
      ≡ is (compared_value comparison literal (numeric_value column segment.bytes)) true
  by_zero true holds =
      joined_answers true (has_value_rightly column segment) (ap (λ (word : ℕ). is_so comparison word literal) (word_read column segment))
      ∙ word_compares comparison literal (numeric_value column segment.bytes) (value_fits column segment.bytes) fits
  by_zero false fails =
      ap (λ (word : ℕ). is_so comparison word literal) (word_read column segment)
      ∙ word_alone comparison literal (numeric_value column segment.bytes) (value_fits column segment.bytes) fits fails

  compares_rightly : answer (compares_number column comparison literal) segment
      ≡ is (compared_value comparison literal (numeric_value column segment.bytes)) true
  compares_rightly = by_zero (holds_of_zero comparison literal) refl

opposite_of_value : (comparison : Comparison) (literal : ℤ) (found : Option ℤ)
    → is (compared_value (opposite comparison) literal found) true ≡ is (compared_value comparison literal found) false
opposite_of_value comparison literal None = refl
opposite_of_value comparison literal (Some number) =
    sym (is_it _) ∙ opposite_compares comparison number literal ∙ isnt_it (compares comparison number literal)

-- a comparison with a column, asked for either truth value
pub compares_number_rightly : (column : NumericColumn) (comparison : Comparison) (literal : ℤ) (segment : SegmentParts)
    → FitsSigned w64 literal → (asked : Bool)
    → answer (compares_number column (if asked then comparison else opposite comparison) literal) segment
    ≡ is (compared_value comparison literal (numeric_value column segment.bytes)) asked
compares_number_rightly column comparison literal segment fits true = compares_rightly column comparison literal segment fits
compares_number_rightly column comparison literal segment fits false =
    compares_rightly column (opposite comparison) literal segment fits
    ∙ opposite_of_value comparison literal (numeric_value column segment.bytes)
