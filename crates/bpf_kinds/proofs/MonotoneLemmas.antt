-- Operations on intervals of operands, one by one: the result lies within the result on wider operands.
use Rattle.std.proofs.Common.{◌≡◌, ℕ, ◌-◌, ◌*◌, ◌/◌, ◌%◌, ◌^◌, ◌<◌, ◌≤◌, ◌&&◌, ◌||◌, nat_lt, nat_le, min, max, Bool, false, if◌then◌else◌}
use Rattle.std.proofs.Common.{subst, sym, arith}
use Rattle.std.proofs.Math.Nat.{mod-lt, div-le_self, pow-le-pow_right}
use Rattle.std.proofs.lemmas.Nat.{pow_pos, pow_below, mul-le}
use Rattle.std.proofs.lemmas.Bool.{cond_both, cond-false, eqb-true}
use Rattle.std.proofs.lemmas.Bool.Decides.{nat_tests}
use Rattle.std.specs.Int.{Width as Bits}
use mir.Val.{bits}
use Rattle.bpf_insn.specs.Arithmetic.{operand_bits, operation_on}
use Rattle.bpf_insn.specs.declared.instruction.Operation.TheVariants.{ArithmeticShiftRight}
use Rattle.bpf_insn.specs.declared.instruction.Width.{Width}
use Rattle.bpf_kinds.specs.Interval.{IsWithin, between, single, is_single, full}
use Rattle.bpf_kinds.specs.Results.{sum_of, difference_of, product_of, quotient_of, remainder_of, left_shift_of, right_shift_of}
use Rattle.bpf_kinds.specs.Results.{arithmetic_shift_of, greatest_of_length}
use Rattle.bpf_kinds.specs.declared.interval.Interval.{Interval}
use Rattle.bpf_kinds.proofs.BitLemmas.{length_of}
use Rattle.bpf_kinds.proofs.HoldLemmas.{Holds, quotient_le}
use Rattle.bpf_kinds.proofs.ShiftLemmas.{arithmetic_shift_of-holds}

-- an interval of numbers below a limit contains another one, which isn't empty
pub record Covers (limit : ℕ) (a x : Interval) : Type 0 where
  pub ordered : x.low ≤ x.high
  pub low : a.low ≤ x.low
  pub high : x.high ≤ a.high
  pub fits : a.high < limit

pub holds_low : {limit : ℕ} (a x : Interval) → Covers limit a x → Holds limit a x.low
holds_low a x covers = record { above = covers.low; below = omega arith; fits = covers.fits }

pub holds_high : {limit : ℕ} (a x : Interval) → Covers limit a x → Holds limit a x.high
holds_high a x covers = record { above = omega arith; below = covers.high; fits = covers.fits }

-- an interval whose ends are in another one
pub within_held : {limit : ℕ} (z : Interval) (low high : ℕ) → Holds limit z low → Holds limit z high → IsWithin (between low high) z
within_held z low high first last = record { low = first.above; high = last.below }

pub within_same : (x : Interval) → IsWithin x x
within_same x = record { low = omega arith; high = omega arith }

pub within_full : (w : Bits) (x : Interval) → x.high < 2 ^ bits w → IsWithin x (full w)
within_full w x fits = record { low = omega arith; high = omega arith }

-- all numbers, within a choice that also yields all of them
pub full_within : (w : Bits) (test : Bool) (z : Interval) → test ≡ false → IsWithin (full w) (if test then z else full w)
full_within w test z not = subst (IsWithin (full w)) (sym (cond-false test z (full w) not)) (within_same (full w))

-- the results p and q for an operand x, by whether it's one number, lie within the results r and s for a wider operand a
pub record RiseBySingle (x a p q r s : Interval) : Type 0 where
  pub both : a.low ≡ a.high → IsWithin p r
  pub one : x.low ≡ x.high → IsWithin p s
  pub neither : IsWithin q s

-- an operand is one number if a wider one is
pub if_single-within : {limit : ℕ} {x a p q r s : Interval} → Covers limit a x → RiseBySingle x a p q r s
    → IsWithin (if is_single x then p else q) (if is_single a then r else s)
if_single-within {x} {a} {p} {q} {r} {s} covers rise =
    cond_both (is_single x) p q (λ z. IsWithin z (if is_single a then r else s))
    (λ x_is. cond_both (is_single a) r s (λ z. IsWithin p z) (λ a_is. rise.both (eqb-true _ _ a_is)) (λ not. rise.one (eqb-true _ _ x_is)))
    (λ x_not. cond_both (is_single a) r s (λ z. IsWithin q z) (λ a_is. grind (arith, nat_tests)) (λ not. rise.neither))

pub sum_of-within : (w : Bits) (x y a b : Interval) → Covers (2 ^ bits w) a x → Covers (2 ^ bits w) b y
    → IsWithin (sum_of w x y) (sum_of w a b)
sum_of-within w x y a b left right = record { low = grind (arith, nat_tests); high = grind (arith, nat_tests) }

pub difference_of-within : (w : Bits) (x y a b : Interval) → Covers (2 ^ bits w) a x → Covers (2 ^ bits w) b y
    → IsWithin (difference_of w x y) (difference_of w a b)
difference_of-within w x y a b left right = record { low = grind (arith, nat_tests); high = grind (arith, nat_tests) }

pub product_of-within : (w : Bits) (x y a b : Interval) → Covers (2 ^ bits w) a x → Covers (2 ^ bits w) b y
    → IsWithin (product_of w x y) (product_of w a b)
product_of-within w x y a b left right =
    let some : 0 < 2 ^ bits w = pow_pos (bits w) in
    let least : a.low * b.low ≤ x.low * y.low = mul-le a.low b.low x.low y.low left.low right.low in
    let most : x.high * y.high ≤ a.high * b.high = mul-le x.high y.high a.high b.high left.high right.high in
    record { low = grind (arith, nat_tests); high = grind (arith, nat_tests) }

pub quotient_of-within : {limit : ℕ} (x y a b : Interval) → Covers limit a x → Covers limit b y
    → IsWithin (quotient_of x y) (quotient_of a b)
quotient_of-within x y a b left right =
    let whole = div-le_self x.high y.low in
    let least = λ (some : 0 < b.low). quotient_le a.low x.low b.high y.high left.low (omega arith) right.high in
    let most = λ (some : 0 < b.low). quotient_le x.high a.high y.low b.low left.high some right.low in
    record { low = grind (arith, nat_tests); high = grind (arith, nat_tests) }

pub remainder_of-within : {limit : ℕ} (x y a b : Interval) → Covers limit a x → Covers limit b y
    → IsWithin (remainder_of x y) (remainder_of a b)
remainder_of-within x y a b left right = record { low = grind (arith, nat_tests); high = grind (arith, nat_tests) }

pub and-within : {limit : ℕ} (x y a b : Interval) → Covers limit a x → Covers limit b y
    → IsWithin (between 0 (min x.high y.high)) (between 0 (min a.high b.high))
and-within x y a b left right = record { low = omega arith; high = omega arith }

-- the greatest number of the same length grows with the number
greatest_le : (m n : ℕ) → m ≤ n → n < 2 ^ 64 → greatest_of_length m ≤ greatest_of_length n
greatest_le m n less fits =
    let larger = length_of n 64 fits (omega arith) in
    let some = larger.1.below in
    let smaller = length_of m larger.0 (omega arith) larger.1.short in
    let power : 2 ^ smaller.0 ≤ 2 ^ larger.0 = pow-le-pow_right {n = 2} (omega arith) smaller.1.short in
    let first = larger.1.greatest in
    let second = smaller.1.greatest in
    omega arith

pub or-within : {limit : ℕ} (x y a b : Interval) → limit ≤ 2 ^ 64 → Covers limit a x → Covers limit b y
    → IsWithin (between (max x.low y.low) (greatest_of_length (max x.high y.high)))
    (between (max a.low b.low) (greatest_of_length (max a.high b.high)))
or-within x y a b wide left right =
    record { low = omega arith; high = greatest_le (max x.high y.high) (max a.high b.high) (omega arith) (omega arith) }

pub exclusive_or-within : {limit : ℕ} (x y a b : Interval) → limit ≤ 2 ^ 64 → Covers limit a x → Covers limit b y
    → IsWithin (between 0 (greatest_of_length (max x.high y.high))) (between 0 (greatest_of_length (max a.high b.high)))
exclusive_or-within x y a b wide left right =
    record { low = omega arith; high = greatest_le (max x.high y.high) (max a.high b.high) (omega arith) (omega arith) }

product_of-fits : (w : Bits) (x y : Interval) → (product_of w x y).high < 2 ^ bits w
product_of-fits w x y = let some : 0 < 2 ^ bits w = pow_pos (bits w) in grind (arith, nat_tests)

pub left_shift_of-within : (w : Bits) (x y a b : Interval) → 0 < bits w → Covers (2 ^ bits w) a x → Covers (2 ^ bits w) b y
    → IsWithin (left_shift_of w x y) (left_shift_of w a b)
left_shift_of-within w x y a b some left right =
    let limit = 2 ^ bits w in
    let by = λ (amount : ℕ). single (2 ^ (amount % bits w)) in
    if_single-within right (record {
      both = λ is.
          let same : b.low ≡ y.low = omega arith in
          let power : Covers limit (by y.low) (by y.low) = record
          { ordered = omega arith; low = omega arith; high = omega arith; fits = pow_below (y.low % bits w) (bits w) (mod-lt y.low some) } in
          let P : ℕ → Type 0 = λ amount. IsWithin (product_of w x (by y.low)) (product_of w a (by amount)) in
          subst P (sym same) (product_of-within w x (by y.low) a (by y.low) left power);
      one = λ is. within_full w _ (product_of-fits w x (by y.low));
      neither = within_same (full w);
    })

pub right_shift_of-within : (w : Bits) (x y a b : Interval) → Covers (2 ^ bits w) a x → Covers (2 ^ bits w) b y
    → IsWithin (right_shift_of w x y) (right_shift_of w a b)
right_shift_of-within w x y a b left right =
    let power = 2 ^ (y.low % bits w) in
    let some : 0 < power = pow_pos (y.low % bits w) in
    let least = quotient_le a.low x.low power power left.low some (omega arith) in
    let most = quotient_le x.high a.high power power left.high some (omega arith) in
    let whole = div-le_self x.high power in
    if_single-within right (record {
      both = λ is.
          let same : b.low ≡ y.low = omega arith in
          let P : ℕ → Type 0 = λ amount. IsWithin (between (x.low / power) (x.high / power))
          (between (a.low / 2 ^ (amount % bits w)) (a.high / 2 ^ (amount % bits w))) in
          subst P (sym same) (record { low = least; high = most });
      one = λ is. record { low = omega arith; high = omega arith };
      neither = record { low = omega arith; high = omega arith };
    })

pub arithmetic_shift_of-within : (width : Width) (x y a b : Interval) → Covers (2 ^ bits (operand_bits width)) a x
    → Covers (2 ^ bits (operand_bits width)) b y → IsWithin (arithmetic_shift_of (operand_bits width) x y)
    (arithmetic_shift_of (operand_bits width) a b)
arithmetic_shift_of-within width x y a b left right =
    let w = operand_bits width in
    let middle = 2 ^ (bits w - 1) in
    let shifted = λ (n : ℕ). operation_on ArithmeticShiftRight w n y.low in
    let result = arithmetic_shift_of w a b in
    let one = holds_low b y right in
    cond_both (is_single y && (nat_lt x.high middle || nat_le middle x.low)) (between (shifted x.low) (shifted x.high)) (full w)
    (λ z. IsWithin z result)
    (λ known.
    let least = arithmetic_shift_of-holds width a b x.low y.low (holds_low a x left) one in
    let most = arithmetic_shift_of-holds width a b x.high y.low (holds_high a x left) one in
    within_held result (shifted x.low) (shifted x.high) least most)
    (λ unknown.
    let wider : (is_single b && (nat_lt a.high middle || nat_le middle a.low)) ≡ false = grind (arith, nat_tests) in
    full_within w _ _ wider)
