use Rattle.std.proofs.Common.{refl}
use Rattle.std.proofs.Math.Nat.{mod-mod}
use Rattle.std.proofs.lemmas.Int.{to_z-of_z}
use Rattle.std.specs.Int.{w64}
use Rattle.bpf_insn.proofs.instruction.Condition.holds.Goals as goal

pub returns-in-SignedGreater : goal.returns-in-SignedGreater
returns-in-SignedGreater c =
    let x = to_z-of_z w64 c.signed.result (record { sfits = c.signed.type_inv }) in
    let y = to_z-of_z w64 c.signed-in-SignedGreater.result (record { sfits = c.signed-in-SignedGreater.type_inv }) in
    rw (
      x,
      y,
      c.signed.ensures,
      c.signed-in-SignedGreater.ensures,
      c.low_bits-x.ensures.value,
      c.low_bits-y.ensures.value,
      mod-mod c.args.x _,
      mod-mod c.args.y _,
      c.in-SignedGreater.is,
    ) refl

pub returns-in-SignedGreaterOrEqual : goal.returns-in-SignedGreaterOrEqual
returns-in-SignedGreaterOrEqual c =
    let x = to_z-of_z w64 c.signed-in-SignedGreaterOrEqual.result (record { sfits = c.signed-in-SignedGreaterOrEqual.type_inv }) in
    let y = to_z-of_z w64 c.signed-in-SignedGreaterOrEqual-2.result (record { sfits = c.signed-in-SignedGreaterOrEqual-2.type_inv }) in
    rw (
      x,
      y,
      c.signed-in-SignedGreaterOrEqual.ensures,
      c.signed-in-SignedGreaterOrEqual-2.ensures,
      c.low_bits-x.ensures.value,
      c.low_bits-y.ensures.value,
      mod-mod c.args.x _,
      mod-mod c.args.y _,
      c.in-SignedGreaterOrEqual.is,
    ) refl

pub returns-in-SignedLess : goal.returns-in-SignedLess
returns-in-SignedLess c =
    let x = to_z-of_z w64 c.signed-in-SignedLess.result (record { sfits = c.signed-in-SignedLess.type_inv }) in
    let y = to_z-of_z w64 c.signed-in-SignedLess-2.result (record { sfits = c.signed-in-SignedLess-2.type_inv }) in
    rw (
      x,
      y,
      c.signed-in-SignedLess.ensures,
      c.signed-in-SignedLess-2.ensures,
      c.low_bits-x.ensures.value,
      c.low_bits-y.ensures.value,
      mod-mod c.args.x _,
      mod-mod c.args.y _,
      c.in-SignedLess.is,
    ) refl

pub returns-in-SignedLessOrEqual : goal.returns-in-SignedLessOrEqual
returns-in-SignedLessOrEqual c =
    let x = to_z-of_z w64 c.signed-in-SignedLessOrEqual.result (record { sfits = c.signed-in-SignedLessOrEqual.type_inv }) in
    let y = to_z-of_z w64 c.signed-in-SignedLessOrEqual-2.result (record { sfits = c.signed-in-SignedLessOrEqual-2.type_inv }) in
    rw (
      x,
      y,
      c.signed-in-SignedLessOrEqual.ensures,
      c.signed-in-SignedLessOrEqual-2.ensures,
      c.low_bits-x.ensures.value,
      c.low_bits-y.ensures.value,
      mod-mod c.args.x _,
      mod-mod c.args.y _,
      c.in-SignedLessOrEqual.is,
    ) refl
