-- Powers of two and the numbers below them.
use Rattle.std.proofs.Common.{◌≡◌, ℕ, suc, ◌+◌, ◌-◌, ◌*◌, ◌/◌, ◌^◌, ◌<◌, ◌≤◌, nat_lt, if◌then◌else◌, ap, refl, sym, ◌∙◌, inl, inr, arith}
use Rattle.std.proofs.Math.Nat.{div-eq_of_lt-le, suc-mul, pow-le-pow_right, pow-suc}
use Rattle.std.proofs.lemmas.Nat.{pow-add, pow_pos, leading_le, leading_length}
use Rattle.std.proofs.lemmas.Bool.{cases_lt}
use Rattle.std.proofs.lemmas.Bool.Decides.{nat_tests}
use Rattle.std.specs.Int.{w64, leading_zeros}
use Rattle.bpf_kinds.specs.Results.{greatest_of_length}

below_whole : (a k : ℕ) → 0 < a → 0 < k → ((a - 1) * k ≤ a * k - 1) × (a * k - 1 < (a - 1 + 1) * k)
below_whole a k some step =
    let whole : a - 1 + 1 ≡ a = omega arith in
    let less : suc (a - 1) * k ≡ a * k = ap (λ n. n * k) (omega arith) in
    let split = suc-mul (a - 1) k in
    let product : (a - 1 + 1) * k ≡ a * k = ap (λ n. n * k) whole in
    (omega arith, omega arith)

-- the greatest number of some digits, after dropping some of them
greatest-shift : (digits dropped : ℕ) → (2 ^ (digits + dropped) - 1) / 2 ^ dropped ≡ 2 ^ digits - 1
greatest-shift digits dropped =
    let split = pow-add 2 digits dropped in
    let below = below_whole (2 ^ digits) (2 ^ dropped) (pow_pos digits) (pow_pos dropped) in
    rw split (div-eq_of_lt-le {k = 2 ^ digits - 1} (2 ^ dropped) below.0 below.1)

shift_by : (zeros : ℕ) → zeros ≤ 64 → (if nat_lt zeros 64 then (2 ^ 64 - 1) / 2 ^ zeros else 0) ≡ 2 ^ (64 - zeros) - 1
shift_by zeros most =
    let digits = 64 - zeros in
    let all : digits + zeros ≡ 64 = omega arith in
    let none : 2 ^ 0 ≡ 1 = refl in
    let shift : (2 ^ 64 - 1) / 2 ^ zeros ≡ 2 ^ digits - 1 = ap (λ n. (2 ^ n - 1) / 2 ^ zeros) (sym all) ∙ greatest-shift digits zeros in
    grind (arith, nat_tests)

pub greatest_of_length-shift : (n : ℕ) → (if nat_lt (leading_zeros w64 n) 64 then
    (2 ^ 64 - 1) / 2 ^ leading_zeros w64 n else 0) ≡ greatest_of_length n
greatest_of_length-shift n = shift_by (leading_zeros w64 n) (leading_le 64 n)

-- a number and the greatest one of its length, which has no more digits than a limit that the number is below
pub record IsLength (n most digits : ℕ) : Type 0 where
  pub greatest : greatest_of_length n ≡ 2 ^ digits - 1
  pub below : n < 2 ^ digits
  pub short : digits ≤ most

pub length_of : (n most : ℕ) → n < 2 ^ most → most ≤ 64 → (digits : ℕ) × IsLength n most digits
length_of n most below fits =
    let wide : 2 ^ most ≤ 2 ^ 64 = pow-le-pow_right {n = 2} (omega arith) fits in
    let found = leading_length 64 n (omega arith) in
    let digits = found.0 in
    let zeros : leading_zeros w64 n + digits ≡ 64 = found.1 in
    let left : digits ≡ 64 - leading_zeros w64 n = omega arith in
    let short : digits ≤ most =
    elim (cases_lt most digits) [
      | inl longer ↦
          let more : 2 ^ suc most ≤ 2 ^ digits = pow-le-pow_right {n = 2} (omega arith) longer in
          let twice = pow-suc 2 most in
          let most_of = found.3 in
          absurd (omega arith)
      | inr enough ↦ enough
    ] in
    (digits, record { greatest = ap (λ k. 2 ^ k - 1) (sym left); below = found.2; short = short })
