-- Coordinates in degrees are numbers of JSON.
use Rattle.std.proofs.Common.{◌≡◌, ℕ, zero, suc, ◌+◌, ◌/◌, ◌%◌, ◌^◌, ◌<◌, ◌==◌, cond, Bool, true, false, ℤ, pos, negsuc, nat_abs, List, [], ◌∷◌, ◌++◌, length, drop, get_or, Option, Some, None, option_map, option_and_then, IfSome, decimal, refl, ap, ap₂, ◌∙◌, arith, append_assoc}
use Rattle.std.proofs.Math.Seq.{drop-append_seam}
use Rattle.std.proofs.lemmas.Bool.{and_parts, ne_eqb}
use Rattle.std.proofs.lemmas.Bool.Decides.{nat_tests}
use Rattle.std.proofs.lemmas.Fmt.{decimal_digit, digits_decimal, first_decimal}
use Rattle.std.proofs.lemmas.Str.Parse.{IsNumeralModel, numerals_by_value, tells_all_ascii_digits}
use Rattle.std.specs.Char.{is_ascii_digit}
use Rattle.std.specs.List.{prefix_len}
use Rattle.std.specs.Str.{all_ascii_digits}
use Rattle.std.specs.Str.Parse.{digits_value}
use Rattle.numerals.proofs.NumeralLemmas.{decimal_in-lt}
use Rattle.numerals.specs.Numeral.{decimal_in}
use Rattle.numerals.specs.Degrees.{degrees, digit, six_digits}
use Rattle.json.specs.Print.{IsNumber}
use Rattle.json.specs.Word.{after_digits, after_exponent, after_fraction, after_minus, after_number, after_whole, head}
use Rattle.tl_fields.specs.Coordinate.{coordinate_of, negative}
use Rattle.tl_fields.specs.Number.{trim}

-- a coordinate in a field has at most nine digits

small-pos : (o : Option ℕ) → IfSome o (λ n. n < 10 ^ 9) → IfSome (option_map pos o) (λ z. nat_abs z < 10 ^ 9)
small-pos None small = small
small-pos (Some n) small = small

small-negative : (o : Option ℕ) → IfSome o (λ n. n < 10 ^ 9) → IfSome (option_map negative o) (λ z. nat_abs z < 10 ^ 9)
small-negative None small = small
small-negative (Some zero) small = small
small-negative (Some (suc n)) small = small

small-if : (test : Bool) (o o' : Option ℤ) → IfSome o (λ z. nat_abs z < 10 ^ 9) → IfSome o' (λ z. nat_abs z < 10 ^ 9)
    → IfSome (cond test o o') (λ z. nat_abs z < 10 ^ 9)
small-if true o o' first second = first
small-if false o o' first second = second

pub coordinate_small : (field : List ℕ) → IfSome (coordinate_of field) (λ z. nat_abs z < 10 ^ 9)
unfolding coordinate_of
coordinate_small field =
    let text = trim field in
    let digits = drop 1 text in
    small-if (get_or text 0 0 == 45) (option_map negative (decimal_in 9 digits)) _ (small-negative (decimal_in 9 digits) (decimal_in-lt 9 digits))
    (small-if (get_or text 0 0 == 43) (option_map pos (decimal_in 9 digits)) (option_map pos (decimal_in 9 text))
    (small-pos (decimal_in 9 digits) (decimal_in-lt 9 digits)) (small-pos (decimal_in 9 text) (decimal_in-lt 9 text)))

-- digits up to a decimal point

own : IsNumeralModel (λ ds. all_ascii_digits ds ≡ true) (digits_value 10)
own = numerals_by_value _ tells_all_ascii_digits

digits-point : (ds rest : List ℕ) → all_ascii_digits ds ≡ true → prefix_len is_ascii_digit (ds ++ 46 ∷ rest) ≡ length ds
digits-point [] rest all = refl
digits-point (d ∷ ds) rest all =
    let parts = and_parts (is_ascii_digit d) (all_ascii_digits ds) all in
    ap₂ (λ test n. cond test (1 + n) 0) parts.0 (digits-point ds rest parts.1) ∙ omega arith

digit-is : (n : ℕ) → is_ascii_digit (digit n) ≡ true
digit-is n = grind (arith, nat_tests)

after_digits-six : (n : ℕ) → after_digits (six_digits n) ≡ Some []
after_digits-six n =
    rw (digit-is (n / 100000), digit-is (n / 10000), digit-is (n / 1000), digit-is (n / 100), digit-is (n / 10), digit-is (n / 1)) refl

-- the whole degrees, up to the decimal point
whole-digits : (ds rest : List ℕ) → 48 < get_or ds 0 0 → all_ascii_digits ds ≡ true
    → (after_whole (ds ++ 46 ∷ rest) ≡ Some (46 ∷ rest)) × ((head (ds ++ 46 ∷ rest) == 45) ≡ false)
whole-digits [] rest first all = absurd (omega arith)
whole-digits (d ∷ ds) rest first all = (
  rw (ne_eqb d 48 (λ e. omega arith), digits-point (d ∷ ds) rest all, ne_eqb (suc (length ds)) 0 (λ e. omega arith))
      (ap Some (drop-append_seam (d ∷ ds) (46 ∷ rest))),
  ne_eqb d 45 (λ e. omega arith),
)

whole-decimal : (n : ℕ) (rest : List ℕ) → n < 2 ^ 64
    → (after_whole (decimal n ++ 46 ∷ rest) ≡ Some (46 ∷ rest)) × ((head (decimal n ++ 46 ∷ rest) == 45) ≡ false)
whole-decimal zero rest fits = let zero_is = decimal_digit 0 (omega arith) in (
  ap (λ ds. after_whole (ds ++ 46 ∷ rest)) zero_is,
  ap (λ ds. head (ds ++ 46 ∷ rest) == 45) zero_is,
)
whole-decimal (suc n) rest fits = whole-digits (decimal (suc n)) rest (first_decimal (suc n) (omega arith) fits) (digits_decimal own (suc n) fits)

-- what follows the minus sign
unsigned-is : (size : ℕ) → size < 2 ^ 64 → option_and_then after_exponent (option_and_then after_fraction
    (after_whole (decimal (size / 1000000) ++ 46 ∷ six_digits (size % 1000000)))) ≡ Some []
unsigned-is size fits =
    ap (λ rest. option_and_then after_exponent (option_and_then after_fraction rest))
    (whole-decimal (size / 1000000) (six_digits (size % 1000000)) (omega arith)).0
    ∙ ap (option_and_then after_exponent) (after_digits-six (size % 1000000))

pub IsNumber-degrees : (z : ℤ) → nat_abs z < 10 ^ 9 → IsNumber (degrees z)
unfolding after_number degrees
IsNumber-degrees (pos size) small =
    let whole = decimal (size / 1000000) in
    let six = six_digits (size % 1000000) in
    let sign = (whole-decimal (size / 1000000) six (omega arith)).1 in
    ap (λ text. option_and_then after_exponent (option_and_then after_fraction (after_whole (after_minus text)))) (append_assoc whole (46 ∷ []) six)
    ∙ ap (λ test. option_and_then after_exponent (option_and_then after_fraction (after_whole (cond test (drop 1 (whole ++ 46 ∷ six)) (whole ++ 46 ∷ six))))) sign
    ∙ unsigned-is size (omega arith)
IsNumber-degrees (negsuc size) small =
    let whole = decimal (suc size / 1000000) in
    let six = six_digits (suc size % 1000000) in
    ap (λ text. option_and_then after_exponent (option_and_then after_fraction (after_whole text))) (append_assoc whole (46 ∷ []) six)
    ∙ unsigned-is (suc size) (omega arith)
