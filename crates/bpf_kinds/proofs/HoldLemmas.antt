-- Intervals of numbers below a limit that contain a number.
use Rattle.std.proofs.Common.{◌≡◌, ℕ, ◌*◌, ◌/◌, ◌%◌, ◌^◌, ◌<◌, ◌≤◌, nat_lt, nat_le, ◌==◌, if◌then◌else◌, ap, arith}
use Rattle.std.proofs.Math.Nat.{mod-lt, mod-add-div', div-mul-le_self}
use Rattle.std.proofs.lemmas.Nat.{pow_pos, le-div, mul-le}
use Rattle.std.proofs.lemmas.Bool.{cond_both, ltb-true, ltb-false, leb-true, leb-false, eqb-true}
use Rattle.std.specs.Int.{Width as Bits}
use mir.Val.{bits}
use Rattle.bpf_insn.specs.Arithmetic.{low_bits}
use Rattle.bpf_kinds.specs.Interval.{Admits, between, single, is_single, full, cut}
use Rattle.bpf_kinds.specs.declared.interval.Interval.{Interval}

-- an interval of numbers below a limit contains a number
pub record Holds (limit : ℕ) (x : Interval) (n : ℕ) : Type 0 where
  pub above : x.low ≤ n
  pub below : n ≤ x.high
  pub fits : x.high < limit

pub full-holds : (w : Bits) (n : ℕ) → n < 2 ^ bits w → Holds (2 ^ bits w) (full w) n
full-holds w n below = record { above = omega arith; below = omega arith; fits = omega arith }

pub single-holds : (limit n : ℕ) → n < limit → Holds limit (single n) n
single-holds limit n below = record { above = omega arith; below = omega arith; fits = omega arith }

-- a choice between two intervals, each of which contains the number if it's chosen
pub if_lt-holds : (a b : ℕ) (x y : Interval) (limit n : ℕ) → (a < b → Holds limit x n) → (b ≤ a → Holds limit y n)
    → Holds limit (if nat_lt a b then x else y) n
if_lt-holds a b x y limit n first second = cond_both (nat_lt a b) x y (λ z. Holds limit z n) (λ is. first (ltb-true a b is))
    (λ not. second (ltb-false a b not))

pub if_le-holds : (a b : ℕ) (x y : Interval) (limit n : ℕ) → (a ≤ b → Holds limit x n) → (b < a → Holds limit y n)
    → Holds limit (if nat_le a b then x else y) n
if_le-holds a b x y limit n first second = cond_both (nat_le a b) x y (λ z. Holds limit z n) (λ is. first (leb-true a b is))
    (λ not. second (leb-false a b not))

pub if_single-holds : {bound : ℕ} {operand y : Interval} (x : Interval) {m limit n : ℕ} → Holds bound operand m
    → (m ≡ operand.low → Holds limit x n) → Holds limit y n → Holds limit (if is_single operand then x else y) n
if_single-holds {operand} {y} x {limit} {n} held first second =
    cond_both (is_single operand) x y (λ z. Holds limit z n)
    (λ is. let one : operand.low ≡ operand.high = eqb-true _ _ is in first (omega arith))
    (λ not. second)

-- quotients grow with the dividend, and shrink with the divisor
pub quotient_le : (a b c d : ℕ) → a ≤ b → 0 < d → d ≤ c → a / c ≤ b / d
quotient_le a b c d more some less =
    let product : a / c * d ≤ a / c * c = mul-le (a / c) d (a / c) c (omega arith) less in
    let whole = div-mul-le_self a c in
    le-div (a / c) b d some (omega arith)

-- numbers with the same bits above are ordered like their low bits
low_le : (a b k : ℕ) → a ≤ b → a / k ≡ b / k → a % k ≤ b % k
low_le a b k more same =
    let upper : a / k * k ≡ b / k * k = ap (λ n. n * k) same in
    let left = mod-add-div' a k in
    let right = mod-add-div' b k in
    omega arith

cut-between : (w : Bits) (x : Interval) (n : ℕ) → x.low ≤ n → n ≤ x.high → x.low / 2 ^ bits w ≡ x.high / 2 ^ bits w
    → Holds (2 ^ bits w) (between (low_bits w x.low) (low_bits w x.high)) (low_bits w n)
cut-between w x n above below same =
    let limit = 2 ^ bits w in
    let some : 0 < limit = pow_pos (bits w) in
    let from_low : x.low / limit ≤ n / limit = quotient_le x.low n limit limit above some (omega arith) in
    let to_high : n / limit ≤ x.high / limit = quotient_le n x.high limit limit below some (omega arith) in
    record {
      above = low_le x.low n limit above (omega arith);
      below = low_le n x.high limit below (omega arith);
      fits = mod-lt x.high some;
    }

pub cut-holds : (w : Bits) (x : Interval) (n : ℕ) → Admits x n → Holds (2 ^ bits w) (cut w x) (low_bits w n)
cut-holds w x n held =
    let limit = 2 ^ bits w in
    cond_both (x.low / limit == x.high / limit) (between (low_bits w x.low) (low_bits w x.high)) (full w)
    (λ z. Holds limit z (low_bits w n))
    (λ is. cut-between w x n held.above held.below (eqb-true _ _ is))
    (λ not. full-holds w (low_bits w n) (mod-lt n (pow_pos (bits w))))
