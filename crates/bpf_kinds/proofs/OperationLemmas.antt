-- Operations on intervals of operands, one by one: the result contains the operation's result on any two numbers in the operands.
use Rattle.std.proofs.Common.{◌≡◌, ℕ, ◌+◌, ◌-◌, ◌*◌, ◌/◌, ◌%◌, ◌^◌, ◌<◌, ◌≤◌, ◌==◌, min, max, bit_and, bit_or, bit_xor, if◌then◌else◌, ap}
use Rattle.std.proofs.Common.{subst, sym, ◌∙◌, arith}
use Rattle.std.proofs.Math.Nat.{mod-eq_of_lt, mod-eq-sub-mod, mod-lt, mod-le, div-le_self, pow-le-pow_right}
use Rattle.std.proofs.lemmas.Nat.{pow_pos, pow_below, mul-le, and_le_l, and_le_r, or_lt, xor_lt, le_or_l, le_or_r}
use Rattle.std.proofs.lemmas.Bool.{cond_both, eqb-true}
use Rattle.std.proofs.lemmas.Bool.Decides.{nat_tests}
use Rattle.std.specs.Int.{Width as Bits}
use mir.Val.{bits}
use Rattle.bpf_kinds.specs.Interval.{between, single}
use Rattle.bpf_kinds.specs.Results.{sum_of, difference_of, product_of, quotient_of, remainder_of, left_shift_of, right_shift_of}
use Rattle.bpf_kinds.specs.Results.{greatest_of_length}
use Rattle.bpf_kinds.specs.declared.interval.Interval.{Interval}
use Rattle.bpf_kinds.proofs.BitLemmas.{length_of}
use Rattle.bpf_kinds.proofs.HoldLemmas.{Holds, full-holds, single-holds, if_lt-holds, if_le-holds, if_single-holds, quotient_le}

-- a number that exceeds the width once
mod-once : (n limit : ℕ) → limit ≤ n → n < limit + limit → n % limit ≡ n - limit
mod-once n limit passes once = mod-eq-sub-mod passes ∙ mod-eq_of_lt (omega arith)

pub sum_of-holds : (w : Bits) (x y : Interval) (m n : ℕ) → Holds (2 ^ bits w) x m → Holds (2 ^ bits w) y n
    → Holds (2 ^ bits w) (sum_of w x y) ((m + n) % 2 ^ bits w)
sum_of-holds w x y m n left right =
    let limit = 2 ^ bits w in
    let sum = (m + n) % limit in
    if_lt-holds (x.high + y.high) limit _ _ limit sum
    (λ fits. let same : sum ≡ m + n = mod-eq_of_lt (omega arith) in record { above = omega arith; below = omega arith; fits = omega arith })
    (λ some_pass. if_le-holds limit (x.low + y.low) _ _ limit sum
    (λ pass. let same : sum ≡ m + n - limit = mod-once (m + n) limit (omega arith) (omega arith) in
    record { above = omega arith; below = omega arith; fits = omega arith })
    (λ some_fit. full-holds w sum (mod-lt (m + n) (pow_pos (bits w)))))

pub difference_of-holds : (w : Bits) (x y : Interval) (m n : ℕ) → Holds (2 ^ bits w) x m → Holds (2 ^ bits w) y n
    → Holds (2 ^ bits w) (difference_of w x y) ((m + (2 ^ bits w - n)) % 2 ^ bits w)
difference_of-holds w x y m n left right =
    let limit = 2 ^ bits w in
    let difference = (m + (limit - n)) % limit in
    if_le-holds y.high x.low _ _ limit difference
    (λ numbers. let same : difference ≡ m - n = mod-once (m + (limit - n)) limit (omega arith) (omega arith) ∙ omega arith in
    record { above = omega arith; below = omega arith; fits = omega arith })
    (λ some_pass. if_lt-holds x.high y.low _ _ limit difference
    (λ pass. let same : difference ≡ m + (limit - n) = mod-eq_of_lt (omega arith) in
    record { above = omega arith; below = omega arith; fits = omega arith })
    (λ some_are. full-holds w difference (mod-lt (m + (limit - n)) (pow_pos (bits w)))))

pub product_of-holds : (w : Bits) (x y : Interval) (m n : ℕ) → Holds (2 ^ bits w) x m → Holds (2 ^ bits w) y n
    → Holds (2 ^ bits w) (product_of w x y) ((m * n) % 2 ^ bits w)
product_of-holds w x y m n left right =
    let limit = 2 ^ bits w in
    let product = (m * n) % limit in
    let least : x.low * y.low ≤ m * n = mul-le x.low y.low m n left.above right.above in
    let most : m * n ≤ x.high * y.high = mul-le m n x.high y.high left.below right.below in
    if_lt-holds (x.high * y.high) limit _ _ limit product
    (λ fits. let same : product ≡ m * n = mod-eq_of_lt (omega arith) in
    record { above = omega arith; below = omega arith; fits = omega arith })
    (λ passes. full-holds w product (mod-lt (m * n) (pow_pos (bits w))))

pub zero_or_quotient : (m n : ℕ) → (if n == 0 then 0 else m / n) ≤ m
zero_or_quotient m n = cond_both (n == 0) 0 (m / n) (λ z. z ≤ m) (λ is. omega arith) (λ not. div-le_self m n)

quotient : (m n : ℕ) → 0 < n → (if n == 0 then 0 else m / n) ≡ m / n
quotient m n some = grind (arith, nat_tests)

pub quotient_of-holds : (limit : ℕ) (x y : Interval) (m n : ℕ) → Holds limit x m → Holds limit y n
    → Holds limit (quotient_of x y) (if n == 0 then 0 else m / n)
quotient_of-holds limit x y m n left right =
    if_le-holds 1 y.low _ _ limit (if n == 0 then 0 else m / n)
    (λ some.
    let same = quotient m n (omega arith) in
    let least = quotient_le x.low m y.high n left.above (omega arith) right.below in
    let most = quotient_le m x.high n y.low left.below (omega arith) right.above in
    let whole = div-le_self x.high y.low in
    record { above = omega arith; below = omega arith; fits = omega arith })
    (λ none. let most = zero_or_quotient m n in record { above = omega arith; below = omega arith; fits = left.fits })

pub remainder_le : (m n : ℕ) → (if n == 0 then m else m % n) ≤ m
remainder_le m n = cond_both (n == 0) m (m % n) (λ z. z ≤ m) (λ is. omega arith) (λ not. mod-le m n)

remainder_lt : (m n : ℕ) → 0 < n → (if n == 0 then m else m % n) < n
remainder_lt m n some =
    cond_both (n == 0) m (m % n) (λ z. z < n) (λ is. let none : n ≡ 0 = eqb-true _ _ is in omega arith) (λ not. mod-lt m some)

pub remainder_of-holds : (limit : ℕ) (x y : Interval) (m n : ℕ) → Holds limit x m → Holds limit y n
    → Holds limit (remainder_of x y) (if n == 0 then m else m % n)
remainder_of-holds limit x y m n left right =
    let most = remainder_le m n in
    if_le-holds 1 y.low _ _ limit (if n == 0 then m else m % n)
    (λ some. let less = remainder_lt m n (omega arith) in record { above = omega arith; below = omega arith; fits = omega arith })
    (λ none. record { above = omega arith; below = omega arith; fits = left.fits })

pub and-holds : (limit : ℕ) (x y : Interval) (m n : ℕ) → Holds limit x m → Holds limit y n
    → Holds limit (between 0 (min x.high y.high)) (bit_and m n)
and-holds limit x y m n left right =
    let first = and_le_l m n in
    let second = and_le_r m n in
    record { above = omega arith; below = omega arith; fits = omega arith }

pub left_shift_of-holds : (w : Bits) (x y : Interval) (m n : ℕ) → 0 < bits w → Holds (2 ^ bits w) x m → Holds (2 ^ bits w) y n
    → Holds (2 ^ bits w) (left_shift_of w x y) ((m * 2 ^ (n % bits w)) % 2 ^ bits w)
left_shift_of-holds w x y m n some left right =
    let limit = 2 ^ bits w in
    if_single-holds _ right
    (λ same.
    let power = 2 ^ (y.low % bits w) in
    let fits : power < limit = pow_below (y.low % bits w) (bits w) (mod-lt y.low some) in
    let P : ℕ → Type 0 = λ amount. Holds limit (product_of w x (single power)) ((m * 2 ^ (amount % bits w)) % limit) in
    subst P (sym same) (product_of-holds w x (single power) m power left (single-holds limit power fits)))
    (full-holds w _ (mod-lt (m * 2 ^ (n % bits w)) (pow_pos (bits w))))

pub right_shift_of-holds : (w : Bits) (x y : Interval) (m n : ℕ) → Holds (2 ^ bits w) x m → Holds (2 ^ bits w) y n
    → Holds (2 ^ bits w) (right_shift_of w x y) (m / 2 ^ (n % bits w))
right_shift_of-holds w x y m n left right =
    let limit = 2 ^ bits w in
    let whole = div-le_self m (2 ^ (n % bits w)) in
    if_single-holds _ right
    (λ same.
    let power = 2 ^ (y.low % bits w) in
    let some : 0 < power = pow_pos (y.low % bits w) in
    let equal : m / 2 ^ (n % bits w) ≡ m / power = ap (λ amount. m / 2 ^ (amount % bits w)) same in
    let least = quotient_le x.low m power power left.above some (omega arith) in
    let most = quotient_le m x.high power power left.below some (omega arith) in
    let all = div-le_self x.high power in
    record { above = omega arith; below = omega arith; fits = omega arith })
    (record { above = omega arith; below = omega arith; fits = left.fits })

pub or-holds : (most : ℕ) (x y : Interval) (m n : ℕ) → most ≤ 64 → Holds (2 ^ most) x m → Holds (2 ^ most) y n
    → Holds (2 ^ most) (between (max x.low y.low) (greatest_of_length (max x.high y.high))) (bit_or m n)
or-holds most x y m n fits left right =
    let found = length_of (max x.high y.high) most (omega arith) fits in
    let length = found.1 in
    let greatest = length.greatest in
    let within : 2 ^ found.0 ≤ 2 ^ most = pow-le-pow_right {n = 2} (omega arith) length.short in
    let some = pow_pos found.0 in
    let first = le_or_l m n in
    let second = le_or_r m n in
    let bits = or_lt found.0 m n (omega arith) (omega arith) in
    record { above = omega arith; below = omega arith; fits = omega arith }

pub exclusive_or-holds : (most : ℕ) (x y : Interval) (m n : ℕ) → most ≤ 64 → Holds (2 ^ most) x m → Holds (2 ^ most) y n
    → Holds (2 ^ most) (between 0 (greatest_of_length (max x.high y.high))) (bit_xor m n)
exclusive_or-holds most x y m n fits left right =
    let found = length_of (max x.high y.high) most (omega arith) fits in
    let length = found.1 in
    let greatest = length.greatest in
    let within : 2 ^ found.0 ≤ 2 ^ most = pow-le-pow_right {n = 2} (omega arith) length.short in
    let some = pow_pos found.0 in
    let bits = xor_lt found.0 m n (omega arith) (omega arith) in
    record { above = omega arith; below = omega arith; fits = omega arith }
