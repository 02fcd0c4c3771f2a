use Rattle.std.proofs.Common.{refl, arith}
use Rattle.std.proofs.Math.Nat.{mod-mod}
use Rattle.std.proofs.lemmas.Int.{to_z-of_z}
use Rattle.std.proofs.lemmas.Nat.{or_lt, xor_lt}
use Rattle.std.proofs.lemmas.Grind.{common_steps}
use Rattle.bpf_insn.proofs.ArithmeticLemmas.{low_bits-wrapped, remainder_bits, quotient_bits}
use Rattle.bpf_insn.proofs.instruction.Operation.apply.Goals as goal

pub returns-else-y-eq0-2-clause-value : goal.returns-else-y-eq0-2-clause-value
returns-else-y-eq0-2-clause-value c = grind (arith, common_steps, to_z-of_z, mod-mod, quotient_bits)

pub returns-else-y-eq0-4-clause-value : goal.returns-else-y-eq0-4-clause-value
returns-else-y-eq0-4-clause-value c = grind (arith, common_steps, to_z-of_z, mod-mod, remainder_bits)

pub returns-in-Or-clause-fits : goal.returns-in-Or-clause-fits
returns-in-Or-clause-fits c = or_lt _ _ _ c.low_bits-x.ensures.fits c.low_bits-y.ensures.fits

pub returns-in-ExclusiveOr-clause-fits : goal.returns-in-ExclusiveOr-clause-fits
returns-in-ExclusiveOr-clause-fits c = xor_lt _ _ _ c.low_bits-x.ensures.fits c.low_bits-y.ensures.fits

pub returns-in-Add-clause-value : goal.returns-in-Add-clause-value
returns-in-Add-clause-value c =
    rw (c.low_bits.ensures.value, low_bits-wrapped, c.low_bits-x.ensures.value, c.low_bits-y.ensures.value, c.in-Add.is) refl

pub returns-in-Multiply-clause-value : goal.returns-in-Multiply-clause-value
returns-in-Multiply-clause-value c =
    rw (c.low_bits-in-Multiply.ensures.value, low_bits-wrapped, c.low_bits-x.ensures.value, c.low_bits-y.ensures.value, c.in-Multiply.is)
    refl

pub returns-in-ShiftLeft-clause-value : goal.returns-in-ShiftLeft-clause-value
returns-in-ShiftLeft-clause-value c =
    rw (
      c.low_bits-in-ShiftLeft.ensures.value,
      low_bits-wrapped,
      c.shift_amount.ensures.value,
      c.low_bits-x.ensures.value,
      c.low_bits-y.ensures.value,
      c.in-ShiftLeft.is,
    ) refl

pub returns-in-ArithmeticShiftRight-clause-value : goal.returns-in-ArithmeticShiftRight-clause-value
returns-in-ArithmeticShiftRight-clause-value c = grind (arith, common_steps)
