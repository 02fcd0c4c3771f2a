-- Decimals of coordinates.
use Rattle.std.proofs.Common.{◌≡◌, ◌<◌, ◌≤◌, ◌+◌, ◌-◌, ◌*◌, ◌^◌, ◌&&◌, ℕ, Bool, true, false}
use Rattle.std.proofs.Common.{List, length, Some, None, if◌then◌else◌, nat_le, refl, arith}
use Rattle.std.specs.Char.{is_ascii_digit}
use Rattle.std.specs.List.{list_all}
use Rattle.std.specs.Str.Parse.{digits_value}
use Rattle.std.proofs.Math.Nat.{mul-lt-mul_of_pos_right, one-le-pow, pow-le-pow_right}
use Rattle.std.proofs.lemmas.Bool.{and_parts}
use Rattle.std.proofs.lemmas.Bool.Decides.{nat_tests}
use Rattle.std.proofs.lemmas.Nat.{pow-add}
use Rattle.numerals.specs.Numeral.{decimal_in, is_decimal}
use Rattle.numerals.proofs.NumeralLemmas.{digits_value-lt}

pub power_some : (n : ℕ) → 0 < 10 ^ n
power_some n = omega (arith, one-le-pow n 10 (omega arith))

pub power_small : (n : ℕ) → n ≤ 15 → 10 ^ n ≤ 10 ^ 15
power_small n few = pow-le-pow_right {n = 10} (omega arith) few

scaled : (most count value : ℕ) → count ≤ most → value < 10 ^ count → value * 10 ^ (most - count) < 10 ^ most
scaled most count value few small =
    let less = mul-lt-mul_of_pos_right small (power_some (most - count)) in
    let whole = pow-add 10 count (most - count) in
    let sum : count + (most - count) ≡ most = omega (arith, few) in
    rw (← whole, sum) at less

parts_by : (most : ℕ) (digits : List ℕ) (test : Bool) (value : ℕ) → is_decimal most digits ≡ test
    → (if test then Some (digits_value 10 digits) else None) ≡ Some value → value * 10 ^ (most - length digits) < 10 ^ most
parts_by most digits false value is known = cc known
parts_by most digits true value is known =
    let outer = and_parts (nat_le 1 (length digits) && nat_le (length digits) most) (list_all is_ascii_digit digits) is in
    let inner = and_parts (nat_le 1 (length digits)) (nat_le (length digits) most) outer.0 in
    let few : length digits ≤ most = grind (arith, nat_tests) in
    let e : digits_value 10 digits ≡ value = cc known in
    let small = scaled most (length digits) (digits_value 10 digits) few (digits_value-lt digits (length digits) outer.1 (omega arith)) in
    rw (← e) small

pub parts_small : (most : ℕ) (digits : List ℕ) (value : ℕ) → decimal_in most digits ≡ Some value
    → value * 10 ^ (most - length digits) < 10 ^ most
parts_small most digits value known = parts_by most digits (is_decimal most digits) value refl known
