-- Shifts to the right that fill with the sign.
use Rattle.std.proofs.Common.{◌≡◌, ℕ, negsuc, suc, ◌-◌, ◌/◌, ◌%◌, ◌^◌, ◌<◌, ◌≤◌, nat_lt, nat_le, ◌&&◌, ◌||◌, refl, ap, subst, sym, inl, inr}
use Rattle.std.proofs.Common.{arith}
use Rattle.std.proofs.Math.Nat.{div-le_self}
use Rattle.std.proofs.lemmas.Nat.{pow_pos}
use Rattle.std.proofs.lemmas.Int.{to_z_pos}
use Rattle.std.proofs.lemmas.Bool.{cond_both, cond-false, cases_lt, le-ltb, ltb-true, leb-true, eqb-true, and_parts, or_cases}
use Rattle.std.specs.Int.{Width as Bits, cast_signed, cast_unsigned, int_shr}
use mir.Val.{bits, hbits}
use Rattle.bpf_insn.specs.Arithmetic as arithmetic
use Rattle.bpf_insn.specs.Arithmetic.{operand_bits}
use Rattle.bpf_insn.specs.declared.instruction.Operation.TheVariants.{ArithmeticShiftRight}
use Rattle.bpf_insn.specs.declared.instruction.Width.{Width}
use Rattle.bpf_insn.specs.declared.instruction.Width.TheVariants.{Bits32, Bits64}
use Rattle.bpf_kinds.specs.Interval.{between, is_single, full}
use Rattle.bpf_kinds.specs.Results.{arithmetic_shift_of}
use Rattle.bpf_kinds.specs.declared.interval.Interval.{Interval}
use Rattle.bpf_kinds.proofs.HoldLemmas.{Holds, full-holds, quotient_le}

-- a number of w bits, shifted by an amount as a signed number
abbrev shifted : Bits → ℕ → ℕ → ℕ
shifted w n amount = cast_unsigned w (int_shr (cast_signed w n) amount)

half : (width : Width) → 2 ^ (bits (operand_bits width) - 1) ≡ 2 ^ hbits (operand_bits width)
half Bits32 = refl
half Bits64 = refl

positive : (w : Bits) (n amount : ℕ) → n < 2 ^ hbits w → shifted w n amount ≡ n / 2 ^ amount
positive w n amount below = ap (λ z. cast_unsigned w (int_shr z amount)) (to_z_pos w n below)

negative : (w : Bits) (n amount : ℕ) → 2 ^ hbits w ≤ n → shifted w n amount ≡ 2 ^ bits w - suc ((2 ^ bits w - suc n) / 2 ^ amount)
negative w n amount above =
    let signed : cast_signed w n ≡ negsuc (2 ^ bits w - suc n) = cond-false (nat_lt n (2 ^ hbits w)) _ _ (le-ltb n (2 ^ hbits w) above) in
    ap (λ z. cast_unsigned w (int_shr z amount)) signed

pub shift-fits : (w : Bits) (n amount : ℕ) → n < 2 ^ bits w → shifted w n amount < 2 ^ bits w
shift-fits w n amount below =
    let some : 0 < 2 ^ bits w = pow_pos (bits w) in
    elim (cases_lt n (2 ^ hbits w)) [
      | inl small ↦ let same = positive w n amount small in let less = div-le_self n (2 ^ amount) in omega arith
      | inr large ↦ let same = negative w n amount large in omega arith
    ]

positive-holds : (w : Bits) (x : Interval) (n amount : ℕ) → Holds (2 ^ bits w) x n → x.high < 2 ^ hbits w
    → Holds (2 ^ bits w) (between (shifted w x.low amount) (shifted w x.high amount)) (shifted w n amount)
positive-holds w x n amount held small =
    let power = 2 ^ amount in
    let some : 0 < power = pow_pos amount in
    let low = positive w x.low amount (omega arith) in
    let this = positive w n amount (omega arith) in
    let high = positive w x.high amount small in
    let least = quotient_le x.low n power power held.above some (omega arith) in
    let most = quotient_le n x.high power power held.below some (omega arith) in
    record { above = omega arith; below = omega arith; fits = shift-fits w x.high amount held.fits }

negative-holds : (w : Bits) (x : Interval) (n amount : ℕ) → Holds (2 ^ bits w) x n → 2 ^ hbits w ≤ x.low
    → Holds (2 ^ bits w) (between (shifted w x.low amount) (shifted w x.high amount)) (shifted w n amount)
negative-holds w x n amount held large =
    let limit = 2 ^ bits w in
    let power = 2 ^ amount in
    let some : 0 < power = pow_pos amount in
    let low = negative w x.low amount large in
    let this = negative w n amount (omega arith) in
    let high = negative w x.high amount (omega arith) in
    let least = quotient_le (limit - suc n) (limit - suc x.low) power power (omega arith) some (omega arith) in
    let most = quotient_le (limit - suc x.high) (limit - suc n) power power (omega arith) some (omega arith) in
    record { above = omega arith; below = omega arith; fits = shift-fits w x.high amount held.fits }

pub arithmetic_shift_of-holds : (width : Width) (x y : Interval) (m n : ℕ) → Holds (2 ^ bits (operand_bits width)) x m
    → Holds (2 ^ bits (operand_bits width)) y n → Holds (2 ^ bits (operand_bits width)) (arithmetic_shift_of (operand_bits width) x y)
    (arithmetic.operation_on ArithmeticShiftRight (operand_bits width) m n)
arithmetic_shift_of-holds width x y m n left right =
    let w = operand_bits width in
    let limit = 2 ^ bits w in
    let middle = 2 ^ (bits w - 1) in
    let same_half = half width in
    let amount = y.low % bits w in
    let ends = between (shifted w x.low amount) (shifted w x.high amount) in
    cond_both (is_single y && (nat_lt x.high middle || nat_le middle x.low)) ends (full w) (λ z. Holds limit z (shifted w m (n % bits w)))
    (λ known.
    let parts = and_parts (is_single y) (nat_lt x.high middle || nat_le middle x.low) known in
    let one : y.low ≡ y.high = eqb-true _ _ parts.0 in
    let same : n ≡ y.low = omega arith in
    let P : ℕ → Type 0 = λ k. Holds limit ends (shifted w m (k % bits w)) in
    subst P (sym same) (elim (or_cases (nat_lt x.high middle) (nat_le middle x.low) parts.1) [
      | inl is ↦ let small = ltb-true _ _ is in positive-holds w x m amount left (omega arith)
      | inr is ↦ let large = leb-true _ _ is in negative-holds w x m amount left (omega arith)
    ]))
    (λ unknown. full-holds w _ (shift-fits w m (n % bits w) (omega arith)))
