-- The text of a coordinate reads back as its millionths.
use Rattle.std.proofs.Common.{◌≡◌, ℕ, suc, neg_ℤ, option_map, ◌+◌, ◌-◌, ◌*◌, ◌/◌, ◌%◌, ◌^◌, ◌<◌, ◌==◌, nat_lt, ℤ, pos, negsuc, true, false, FitsSigned, List, [], ◌∷◌, ◌++◌, length, take, drop, get_or, Some, decimal, refl, sym, ap, ◌∙◌, arith, append_assoc}
use Rattle.std.specs.Int.{w64}
use Rattle.std.specs.Str.{all_ascii_digits}
use Rattle.std.specs.Str.Parse.{digits_value}
use Rattle.std.proofs.lemmas.Bool.{lt-ltb, ne_eqb}
use Rattle.std.proofs.lemmas.Bool.Decides.{nat_tests}
use Rattle.std.proofs.lemmas.Int.{ints}
use Rattle.std.proofs.lemmas.Fmt.{decimal_is_IsNumeral, digits_decimal, digits_value-decimal}
use Rattle.std.proofs.lemmas.List.{get_or_append_left, length-append}
use Rattle.std.proofs.Math.Seq.{take-append_seam, drop-append_seam, get_or-append_seam}
use Rattle.std.specs.Char.{digit_value}
use Rattle.std.proofs.lemmas.Str.{digit_value_digit}
use Rattle.std.proofs.lemmas.Str.Parse.{IsNumeralModel, numerals_by_value, tells_all_ascii_digits, digit_at}
use Rattle.numerals.specs.Degrees.{degrees, digit, six_digits}
use Rattle.numerals.specs.Millionths.{decimals, millionths_in, unsigned_in, whole}

own : IsNumeralModel (λ ds. all_ascii_digits ds ≡ true) (digits_value 10)
own = numerals_by_value _ tells_all_ascii_digits

module _ (before after : List ℕ) (six : length after ≡ 6) where
  abbrev text : List ℕ
  text = (before ++ 46 ∷ []) ++ after

  length-text : length text ≡ length before + 7
  length-text = omega (arith, length-append (before ++ 46 ∷ []) after, length-append before (46 ∷ []))

  whole-text : whole text ≡ before
  whole-text =
      let start : length text - 7 ≡ length before = omega (arith, length-text) in
      ap (λ n. take n text) start ∙ ap (take (length before)) (append_assoc before (46 ∷ []) after) ∙ take-append_seam before (46 ∷ after)

  decimals-text : decimals text ≡ after
  decimals-text =
      let start : length text - 6 ≡ length (before ++ 46 ∷ []) = omega (arith, length-text, length-append before (46 ∷ [])) in
      ap (λ n. drop n text) start ∙ drop-append_seam (before ++ 46 ∷ []) after

  point-text : get_or text (length text - 7) 0 ≡ 46
  point-text =
      let start : length text - 7 ≡ length before = omega (arith, length-text) in
      ap (λ n. get_or text n 0) start ∙ ap (λ bytes. get_or bytes (length before) 0) (append_assoc before (46 ∷ []) after)
      ∙ get_or-append_seam before 46 after 0

  pub unsigned_in-text : 0 < length before → all_ascii_digits before ≡ true → all_ascii_digits after ≡ true
      → unsigned_in text ≡ Some (digits_value 10 before * 10 ^ 6 + digits_value 10 after)
  unsigned_in-text some digits more =
      let long : nat_lt 7 (length text) ≡ true = lt-ltb _ _ (omega (arith, length-text)) in
      rw (long, point-text, whole-text, decimals-text, digits, more) refl

digits_of-digit : (n : ℕ) → all_ascii_digits (digit n ∷ []) ≡ true
digits_of-digit n = grind (arith, nat_tests)

digit_value-digit : (n : ℕ) → digit_value (digit n) ≡ n % 10
digit_value-digit n = omega (arith, digit_value_digit (digit n) (omega arith, omega arith))

all_ascii_digits-six_digits : (n : ℕ) → all_ascii_digits (six_digits n) ≡ true
all_ascii_digits-six_digits n = rw (digits_of-digit, digits_of-digit, digits_of-digit, digits_of-digit, digits_of-digit, digits_of-digit) refl

digits_value-six_digits : (n : ℕ) → n < 10 ^ 6 → digits_value 10 (six_digits n) ≡ n
digits_value-six_digits n small =
    let hundreds_of_thousands : n / 100000 ≡ n / 10000 / 10 = omega arith in
    let tens_of_thousands : n / 10000 ≡ n / 1000 / 10 = omega arith in
    let thousands : n / 1000 ≡ n / 100 / 10 = omega arith in
    let hundreds : n / 100 ≡ n / 10 / 10 = omega arith in
    let below_ten : n / 100000 < 10 = omega arith in
    rw (
      digit_value-digit (n / 100000),
      digit_value-digit (n / 10000),
      digit_value-digit (n / 1000),
      digit_value-digit (n / 100),
      digit_value-digit (n / 10),
      digit_value-digit (n / 1),
    ) (omega arith)

-- whole degrees, a decimal point and six decimals
abbrev unsigned : ℕ → List ℕ
unsigned size = (decimal (size / 10 ^ 6) ++ 46 ∷ []) ++ six_digits (size % 10 ^ 6)

unsigned_in-unsigned : (size : ℕ) → size < 2 ^ 64 → unsigned_in (unsigned size) ≡ Some size
unsigned_in-unsigned size fits =
    let smaller : size / 10 ^ 6 < 2 ^ 64 = omega arith in
    let all : size / 10 ^ 6 * 10 ^ 6 + size % 10 ^ 6 ≡ size = omega arith in
    let numeral = decimal_is_IsNumeral (size / 10 ^ 6) smaller in
    unsigned_in-text (decimal (size / 10 ^ 6)) (six_digits (size % 10 ^ 6)) refl numeral.0.0 (digits_decimal own (size / 10 ^ 6) smaller)
    (all_ascii_digits-six_digits (size % 10 ^ 6))
    ∙ rw (digits_value-decimal own (size / 10 ^ 6) smaller, digits_value-six_digits (size % 10 ^ 6) (omega arith)) (ap Some all)

-- the first byte is a digit, and no sign
first-unsigned : (size : ℕ) → size < 2 ^ 64 → (get_or (unsigned size) 0 0 == 45) ≡ false
first-unsigned size fits =
    let whole_degrees = decimal (size / 10 ^ 6) in
    let numeral = decimal_is_IsNumeral (size / 10 ^ 6) (omega arith) in
    let digit_first = digit_at whole_degrees 0 numeral.0.1 numeral.0.0 in
    let more : 0 < length (whole_degrees ++ 46 ∷ []) = omega (arith, length-append whole_degrees (46 ∷ []), numeral.0.0) in
    let first : get_or (unsigned size) 0 0 ≡ get_or whole_degrees 0 0 =
    get_or_append_left (whole_degrees ++ 46 ∷ []) (six_digits (size % 10 ^ 6)) 0 0 more ∙ get_or_append_left whole_degrees (46 ∷ []) 0 0 numeral.0.0 in
    ne_eqb (get_or (unsigned size) 0 0) 45 (λ is. omega (arith, sym first ∙ is, digit_first.0))

pub millionths_in-degrees : (coordinate : ℤ) → FitsSigned w64 coordinate → millionths_in (degrees coordinate) ≡ Some coordinate
unfolding degrees
millionths_in-degrees (pos size) fits =
    let small : size < 2 ^ 64 = omega (arith, ints) in
    rw (first-unsigned size small, unsigned_in-unsigned size small) refl
millionths_in-degrees (negsuc size) fits =
    let small : suc size < 2 ^ 64 = omega (arith, ints) in
    ap (option_map (λ size. neg_ℤ (pos size))) (unsigned_in-unsigned (suc size) small)
