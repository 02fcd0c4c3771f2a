-- Properties of a number's digits.
use Rattle.std.proofs.Common.{◌≡◌, ℕ, ◌+◌, ◌*◌, ◌^◌, ◌<◌, ◌≤◌, true, List, [], ◌∷◌, length, get_or, take, refl, arith}
use Rattle.std.specs.List.{list_all}
use Rattle.std.specs.Char.{digit_value}
use Rattle.std.specs.Str.Parse.{digits_value, AllDigits}
use Rattle.std.proofs.lemmas.Bool.{and_parts, lt-ltb, ltb-true}
use Rattle.std.proofs.lemmas.Int.Digits.{digits_value-lt, digits_value_more}
use Rattle.std.proofs.lemmas.List.Folds.{list_all_more}
use Rattle.std.proofs.Math.Nat.{lt_of_lt_of_le, pow-le-pow_right, pow-le-pow_left}
use Rattle.bpf_assembler.specs.Number.{is_digit}

pub all_digits : (radix : ℕ) (ds : List ℕ) → list_all (is_digit radix) ds ≡ true → AllDigits radix ds
all_digits radix [] all = tt
all_digits radix (d ∷ ds) all =
    let parts = and_parts (is_digit radix d) (list_all (is_digit radix) ds) all in
    (ltb-true _ _ parts.0, all_digits radix ds parts.1)

-- a bounded number of digits denotes a number below that power of the radix
pub digits-lt : (radix most : ℕ) (ds : List ℕ) → 2 ≤ radix → length ds ≤ most → list_all (is_digit radix) ds ≡ true
    → digits_value radix ds < radix ^ most
digits-lt radix most ds some few all =
    lt_of_lt_of_le (digits_value-lt radix ds (all_digits radix ds all)) (pow-le-pow_right (omega arith) few)

-- up to twenty digits in a radix of at most 16
pub digits-small : (radix : ℕ) (ds : List ℕ) → 2 ≤ radix → radix ≤ 16 → length ds ≤ 20 → list_all (is_digit radix) ds ≡ true
    → digits_value radix ds < 2 ^ 80
digits-small radix ds some few short all =
    lt_of_lt_of_le (digits-lt radix 20 ds some short all) (pow-le-pow_left few 20)

-- one more digit
pub digits-next : (radix : ℕ) (ds : List ℕ) (i value : ℕ) → i < length ds → value ≡ digits_value radix (take i ds)
    → value * radix + digit_value (get_or ds i 0) ≡ digits_value radix (take (i + 1) ds)
digits-next radix ds i value inside so_far = rw (digits_value_more radix ds i inside, so_far) refl

pub all-next : (radix : ℕ) (ds : List ℕ) (i : ℕ) → i < length ds → digit_value (get_or ds i 0) < radix
    → list_all (is_digit radix) (take i ds) ≡ true → list_all (is_digit radix) (take (i + 1) ds) ≡ true
all-next radix ds i inside digit so_far = rw (list_all_more (is_digit radix) ds i 0 inside, so_far, lt-ltb _ _ digit) refl
