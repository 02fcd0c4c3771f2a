-- Operations on intervals of operands: the result contains the operation's result on any two numbers in the operands.
use Rattle.std.proofs.Common.{◌≡◌, ℕ, ◌^◌, ◌<◌, ◌≤◌, ◌&&◌, subst, ◌∙◌, ap, lit≤, lit<, arith}
use Rattle.std.proofs.lemmas.Bool.{cond_both, and_parts, eqb-true}
use mir.Val.{bits}
use Rattle.bpf_insn.specs.Arithmetic as arithmetic
use Rattle.bpf_insn.specs.Arithmetic.{operand_bits}
use Rattle.bpf_insn.specs.declared.instruction.Operation.{Operation}
use Rattle.bpf_insn.specs.declared.instruction.Operation.TheVariants.{Add, Subtract, Multiply, Divide, SignedDivide, Or, And, ShiftLeft}
use Rattle.bpf_insn.specs.declared.instruction.Operation.TheVariants.{ShiftRight, Modulo, SignedModulo, ExclusiveOr, Move}
use Rattle.bpf_insn.specs.declared.instruction.Operation.TheVariants.{ArithmeticShiftRight}
use Rattle.bpf_insn.specs.declared.instruction.Width.{Width}
use Rattle.bpf_insn.specs.declared.instruction.Width.TheVariants.{Bits32, Bits64}
use Rattle.bpf_kinds.specs.Interval.{single, is_single}
use Rattle.bpf_kinds.specs.Results.{operation_on, result_on}
use Rattle.bpf_kinds.specs.declared.interval.Interval.{Interval}
use Rattle.bpf_kinds.proofs.HoldLemmas.{Holds, full-holds, single-holds}
use Rattle.bpf_kinds.proofs.ExactLemmas.{operation-fits}
use Rattle.bpf_kinds.proofs.ShiftLemmas.{arithmetic_shift_of-holds}
use Rattle.bpf_kinds.proofs.OperationLemmas.{sum_of-holds, difference_of-holds, product_of-holds, quotient_of-holds, remainder_of-holds}
use Rattle.bpf_kinds.proofs.OperationLemmas.{and-holds, or-holds, exclusive_or-holds, left_shift_of-holds, right_shift_of-holds}

pub some_bits : (width : Width) → 0 < bits (operand_bits width)
some_bits Bits32 = lit< tt
some_bits Bits64 = lit< tt

bits_le : (width : Width) → bits (operand_bits width) ≤ 64
bits_le Bits32 = lit≤ tt
bits_le Bits64 = lit≤ tt

operation_on-holds : (operation : Operation) (width : Width) (x y : Interval) (m n : ℕ) → Holds (2 ^ bits (operand_bits width)) x m
    → Holds (2 ^ bits (operand_bits width)) y n → Holds (2 ^ bits (operand_bits width)) (operation_on operation (operand_bits width) x y)
    (arithmetic.operation_on operation (operand_bits width) m n)
operation_on-holds Add width x y m n left right = sum_of-holds (operand_bits width) x y m n left right
operation_on-holds Subtract width x y m n left right = difference_of-holds (operand_bits width) x y m n left right
operation_on-holds Multiply width x y m n left right = product_of-holds (operand_bits width) x y m n left right
operation_on-holds Divide width x y m n left right = quotient_of-holds (2 ^ bits (operand_bits width)) x y m n left right
operation_on-holds SignedDivide width x y m n left right = full-holds (operand_bits width) _
    (operation-fits SignedDivide width m n (omega arith) (omega arith))
operation_on-holds Or width x y m n left right = or-holds (bits (operand_bits width)) x y m n (bits_le width) left right
operation_on-holds And width x y m n left right = and-holds (2 ^ bits (operand_bits width)) x y m n left right
operation_on-holds ShiftLeft width x y m n left right = left_shift_of-holds (operand_bits width) x y m n (some_bits width) left right
operation_on-holds ShiftRight width x y m n left right = right_shift_of-holds (operand_bits width) x y m n left right
operation_on-holds Modulo width x y m n left right = remainder_of-holds (2 ^ bits (operand_bits width)) x y m n left right
operation_on-holds SignedModulo width x y m n left right = full-holds (operand_bits width) _
    (operation-fits SignedModulo width m n (omega arith) (omega arith))
operation_on-holds ExclusiveOr width x y m n left right = exclusive_or-holds (bits (operand_bits width)) x y m n (bits_le width) left right
operation_on-holds Move width x y m n left right = right
operation_on-holds ArithmeticShiftRight width x y m n left right = arithmetic_shift_of-holds width x y m n left right

pub result_on-holds : (operation : Operation) (width : Width) (x y : Interval) (m n : ℕ) → Holds (2 ^ bits (operand_bits width)) x m
    → Holds (2 ^ bits (operand_bits width)) y n → Holds (2 ^ bits (operand_bits width)) (result_on operation (operand_bits width) x y)
    (arithmetic.operation_on operation (operand_bits width) m n)
result_on-holds operation width x y m n left right =
    let w = operand_bits width in
    let limit = 2 ^ bits w in
    let result = arithmetic.operation_on operation w m n in
    cond_both (is_single x && is_single y) (single (arithmetic.operation_on operation w x.low y.low)) (operation_on operation w x y)
    (λ z. Holds limit z result)
    (λ known.
    let parts = and_parts (is_single x) (is_single y) known in
    let x_one : x.low ≡ x.high = eqb-true _ _ parts.0 in
    let y_one : y.low ≡ y.high = eqb-true _ _ parts.1 in
    let x_same : m ≡ x.low = omega arith in
    let y_same : n ≡ y.low = omega arith in
    let P : ℕ → Type 0 = λ k. Holds limit (single k) result in
    subst P (ap (λ k. arithmetic.operation_on operation w k n) x_same ∙ ap (arithmetic.operation_on operation w x.low) y_same)
    (single-holds limit result (operation-fits operation width m n (omega arith) (omega arith))))
    (λ unknown. operation_on-holds operation width x y m n left right)
