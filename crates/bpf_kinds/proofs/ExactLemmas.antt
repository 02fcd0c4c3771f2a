-- The result of an operation on two numbers has the operands' width.
use Rattle.std.proofs.Common.{◌≡◌, ℕ, ◌%◌, ◌^◌, ◌<◌, ◌==◌, subst, arith}
use Rattle.std.proofs.Math.Nat.{mod-lt, mod-eq_of_lt, div-le_self}
use Rattle.std.proofs.lemmas.Nat.{pow_pos, and_le_l, or_lt, xor_lt}
use Rattle.std.proofs.lemmas.Bool.{cond_both}
use Rattle.std.specs.Int.{Width as Bits, cast_signed, cast_unsigned}
use Rattle.std.specs.Int.RustNames.{int_div, int_rem}
use mir.Val.{bits}
use Rattle.bpf_insn.specs.Arithmetic as arithmetic
use Rattle.bpf_insn.specs.Arithmetic.{operand_bits, low_bits}
use Rattle.bpf_insn.specs.declared.instruction.Operation.{Operation}
use Rattle.bpf_insn.specs.declared.instruction.Operation.TheVariants.{Divide, SignedDivide, Or, And}
use Rattle.bpf_insn.specs.declared.instruction.Operation.TheVariants.{ShiftRight, Modulo, SignedModulo, ExclusiveOr, Move}
use Rattle.bpf_insn.specs.declared.instruction.Operation.TheVariants.{ArithmeticShiftRight}
use Rattle.bpf_insn.specs.declared.instruction.Width.{Width}
use Rattle.bpf_insn.proofs.ArithmeticLemmas.{quotient_bits, remainder_bits}
use Rattle.bpf_kinds.proofs.OperationLemmas.{zero_or_quotient, remainder_le}
use Rattle.bpf_kinds.proofs.ShiftLemmas.{shift-fits}

low-same : (w : Bits) (n : ℕ) → n < 2 ^ bits w → low_bits w n ≡ n
low-same w n below = mod-eq_of_lt below

low-fits : (w : Bits) (n : ℕ) → low_bits w n < 2 ^ bits w
low-fits w n = mod-lt n (pow_pos (bits w))

signed_quotient-fits : (width : Width) (m n : ℕ) → m < 2 ^ bits (operand_bits width)
    → cast_unsigned (operand_bits width) (int_div (cast_signed (operand_bits width) m) (cast_signed (operand_bits width) n)) < 2 ^ bits
    (operand_bits width)
signed_quotient-fits width m n below =
    let w = operand_bits width in
    let d = cast_signed w n in
    let P : ℕ → Type 0 = λ k. cast_unsigned w (int_div (cast_signed w k) d) < 2 ^ bits w in
    let Q : ℕ → Type 0 = λ k. k < 2 ^ bits w in
    subst P (low-same w m below) (subst Q (quotient_bits width m d) (low-fits w _))

signed_remainder-fits : (width : Width) (m n : ℕ) → m < 2 ^ bits (operand_bits width)
    → cast_unsigned (operand_bits width) (int_rem (cast_signed (operand_bits width) m) (cast_signed (operand_bits width) n)) < 2 ^ bits
    (operand_bits width)
signed_remainder-fits width m n below =
    let w = operand_bits width in
    let d = cast_signed w n in
    let P : ℕ → Type 0 = λ k. cast_unsigned w (int_rem (cast_signed w k) d) < 2 ^ bits w in
    let Q : ℕ → Type 0 = λ k. k < 2 ^ bits w in
    subst P (low-same w m below) (subst Q (remainder_bits width m d) (low-fits w _))

pub operation-fits : (operation : Operation) (width : Width) (m n : ℕ) → m < 2 ^ bits (operand_bits width)
    → n < 2 ^ bits (operand_bits width) → arithmetic.operation_on operation (operand_bits width) m n < 2 ^ bits (operand_bits width)
operation-fits Divide width m n left right = let less = zero_or_quotient m n in omega arith
operation-fits SignedDivide width m n left right =
    cond_both (n == 0) 0 _ (λ z. z < 2 ^ bits (operand_bits width)) (λ none. pow_pos (bits (operand_bits width)))
    (λ some. signed_quotient-fits width m n left)
operation-fits Or width m n left right = or_lt (bits (operand_bits width)) m n left right
operation-fits And width m n left right = let less = and_le_l m n in omega arith
operation-fits ShiftRight width m n left right = let less = div-le_self m (2 ^ (n % bits (operand_bits width))) in omega arith
operation-fits Modulo width m n left right = let less = remainder_le m n in omega arith
operation-fits SignedModulo width m n left right =
    cond_both (n == 0) m _ (λ z. z < 2 ^ bits (operand_bits width)) (λ none. left) (λ some. signed_remainder-fits width m n left)
operation-fits ExclusiveOr width m n left right = xor_lt (bits (operand_bits width)) m n left right
operation-fits Move width m n left right = right
operation-fits ArithmeticShiftRight width m n left right = shift-fits (operand_bits width) m (n % bits (operand_bits width)) left
operation-fits operation width m n left right = low-fits (operand_bits width) _
