-- The values of digits, one digit after the other, and their bounds.
use Rattle.std.proofs.Common.{◌≡◌, ℕ, Bool, ◌&&◌, nat_le, ◌+◌, ◌-◌, ◌*◌, ◌^◌, ◌<◌, ◌≤◌, true, false, List, length, get_or}
use Rattle.std.proofs.Common.{take, if◌then◌else◌, Some, None, IfSome, refl, arith, rules}
use Rattle.std.specs.List.{list_all}
use Rattle.std.specs.Char.{is_ascii_digit, digit_value}
use Rattle.std.specs.Str.Parse.{digits_value}
use Rattle.std.proofs.lemmas.Bool.{le-leb, leb-true, and_parts}
use Rattle.std.proofs.lemmas.Bool.Decides.{nat_tests}
use Rattle.std.proofs.lemmas.Int.Digits.{digits_value_more}
use Rattle.std.proofs.lemmas.List.Folds.{list_all_more}
use Rattle.std.proofs.lemmas.Str.Parse.{IsNumeralModel, numerals_by_value, digits_value_short}
use Rattle.numerals.specs.Numeral.{decimal_in, is_decimal}

digits_model : IsNumeralModel (λ ds. list_all is_ascii_digit ds ≡ true) (digits_value 10)
digits_model = numerals_by_value _ (search rules)

-- k digits or fewer denote a number below 10 ^ k
pub digits_value-lt : (ds : List ℕ) (k : ℕ) → list_all is_ascii_digit ds ≡ true → length ds ≤ k → digits_value 10 ds < 10 ^ k
digits_value-lt ds k digits short = digits_value_short digits_model ds k digits short

-- the value so far, and one more digit
pub digits_value-next : (ds : List ℕ) (i value : ℕ) → i < length ds → is_ascii_digit (get_or ds i 0) ≡ true
    → value ≡ digits_value 10 (take i ds) → value * 10 + (get_or ds i 0 - 48) ≡ digits_value 10 (take (i + 1) ds)
digits_value-next ds i value inside digit so_far =
    let worth : digit_value (get_or ds i 0) ≡ get_or ds i 0 - 48 = grind (arith, nat_tests) in
    rw (digits_value_more 10 ds i inside, worth, so_far) refl

-- the digits so far, and one more
pub list_all-next : (ds : List ℕ) (i : ℕ) → i < length ds → is_ascii_digit (get_or ds i 0) ≡ true
    → list_all is_ascii_digit (take i ds) ≡ true → list_all is_ascii_digit (take (i + 1) ds) ≡ true
list_all-next ds i inside digit so_far = rw (list_all_more is_ascii_digit ds i 0 inside, so_far, digit) refl

-- bytes whose count a numeral may have
pub decimal_in-few : (most : ℕ) (ds : List ℕ) → 1 ≤ length ds → length ds ≤ most
    → decimal_in most ds ≡ (if list_all is_ascii_digit ds then Some (digits_value 10 ds) else None)
decimal_in-few most ds some few = rw (le-leb 1 (length ds) some, le-leb (length ds) most few) refl

decimal_in-below_by : (most k : ℕ) (ds : List ℕ) (b : Bool) → (length ds ≤ most → length ds ≤ k) → is_decimal most ds ≡ b
    → IfSome (if b then Some (digits_value 10 ds) else None) (λ n. n < 10 ^ k)
decimal_in-below_by most k ds true fits is =
    let parts = and_parts (nat_le 1 (length ds) && nat_le (length ds) most) _ is in
    digits_value-lt ds k parts.1 (fits (leb-true _ _ (and_parts (nat_le 1 (length ds)) _ parts.0).1))
decimal_in-below_by most k ds false fits is = tt

-- a numeral of k digits or fewer is below 10 ^ k, even if more digits are allowed
pub decimal_in-below : (most k : ℕ) (ds : List ℕ) → (length ds ≤ most → length ds ≤ k) → IfSome (decimal_in most ds) (λ n. n < 10 ^ k)
decimal_in-below most k ds fits = decimal_in-below_by most k ds _ fits refl

-- `most` digits or fewer denote a number below 10 ^ most
pub decimal_in-lt : (most : ℕ) (ds : List ℕ) → IfSome (decimal_in most ds) (λ n. n < 10 ^ most)
decimal_in-lt most ds = decimal_in-below most most ds (λ fits. fits)
