-- Arithmetic on kinds is sound.
use Rattle.std.proofs.Common.{◌≡◌, ℕ, ◌^◌, ◌≤◌, ◌-◌, ◌||◌, nat_lt, nat_le, ℤ, Bool, true, false, Option, Some, None}
use Rattle.std.proofs.Common.{Ok, IsTrue, if◌then◌else◌, refl, arith}
use Rattle.std.proofs.lemmas.Bool.Decides.{nat_tests}
use Rattle.std.proofs.lemmas.Int.{ints}
use Rattle.std.specs.Int.{w32, w64, cast_signed}
use Rattle.bpf_insn.specs.Arithmetic.{operand_bits, low_bits, result_of}
use Rattle.bpf_insn.specs.Pointer.{is_offset}
use Rattle.bpf_insn.specs.declared.instruction.Operation.{Operation}
use Rattle.bpf_insn.specs.declared.instruction.Width.{Width}
use Rattle.bpf_insn.specs.declared.instruction.Width.TheVariants.{Bits32, Bits64}
use Rattle.bpf_insn.specs.declared.value.Area.{Area}
use Rattle.bpf_insn.specs.declared.value.Area.TheVariants as area
use Rattle.bpf_insn.specs.declared.value.Value.{Value}
use Rattle.bpf_insn.specs.declared.value.Value.TheVariants as value
use Rattle.bpf_kinds.specs.Offsets as offsets
use Rattle.bpf_kinds.specs.Moving.{near_distances, move_by, move_back_by}
use Rattle.bpf_kinds.specs.Kind as kind
use Rattle.bpf_kinds.specs.declared.kind.Kind.{Kind}
use Rattle.bpf_kinds.specs.declared.kind.Kind.TheVariants.{Number, Record, Frame, Nothing}
use Rattle.bpf_kinds.specs.declared.offsets.Offsets.{Offsets}
use Rattle.bpf_kinds.proofs.HoldLemmas.{cut-holds}
use Rattle.bpf_kinds.proofs.MovingLaws.{near_above, near_below, move_by-admits, move_back_by-admits}
use Rattle.bpf_kinds.proofs.ResultLemmas.{alu-holds}
use Rattle.bpf_meaning.specs.Effect as effect
use Rattle.bpf_meaning.specs.Effect.{offset_or, tagged_value, value_tags}
use Rattle.bpf_meaning.specs.declared.cause.Cause.TheVariants.{PointerArithmetic, LeavesArea}
use Rattle.bpf_kinds.specs.Interval.{Admits, cut}
use Rattle.bpf_kinds.specs.Results.{alu}
use Rattle.bpf_kinds.specs.declared.interval.Interval.{Interval}
use Rattle.bpf_verify.specs.Transfer.{or_cause, tagged_kind, kind_pointer, kind_tags}
use Rattle.bpf_meaning.specs.Tags.{operate, move}
use Rattle.bpf_meaning.specs.Checks.{Sound}
use Rattle.bpf_meaning.proofs.CheckLemmas.{passes_if}
use Rattle.bpf_meaning.proofs.TagLemmas.{Relate, Agree, operate_agrees, move_agrees}

-- An immediate is any number in the definitions, so these laws require nothing of the interval.

low_half_sound : (x : Interval) (n : ℕ) → Admits x n → Admits (cut w32 x) (low_bits w32 n)
low_half_sound x n admits = let held = cut-holds w32 x n admits in record { above = held.above; below = held.below }

pub low_twice : (width : Width) (n : ℕ) → low_bits (operand_bits width) (low_bits (operand_bits width) n) ≡ low_bits (operand_bits width) n
low_twice Bits32 n = omega arith
low_twice Bits64 n = omega arith

alu_sound : (operation : Operation) (width : Width) (x y : Interval) (m n : ℕ) → Admits x m → Admits y n
    → Admits (alu operation width x y) (result_of operation width m n)
alu_sound operation width x y m n left right =
    let held = alu-holds operation width x y m n left right in record { above = held.above; below = held.below }

-- moved pointers

near_offset : (low n high : ℕ) → low ≤ n → n ≤ high → (nat_lt high (2 ^ 15) || nat_le (2 ^ 64 - 2 ^ 15) low) ≡ true
    → IsTrue (is_offset (cast_signed w64 n))
near_offset low n high above below near = grind (arith, ints, nat_tests)

-- A number by which pointers may be moved. All numbers between two near ends are near.
near_sound : (x : Interval) (n : ℕ) → Admits x n → Sound offsets.Admits (or_cause PointerArithmetic (near_distances x))
    (effect.near_distance n)
near_sound x n admits = by_test (nat_lt x.high (2 ^ 15) || nat_le (2 ^ 64 - 2 ^ 15) x.low) refl
  where
    by_test : (near : Bool) → (nat_lt x.high (2 ^ 15) || nat_le (2 ^ 64 - 2 ^ 15) x.low) ≡ near
        → Sound offsets.Admits (or_cause PointerArithmetic
        (if near then Some (offsets.between (cast_signed w64 x.low) (cast_signed w64 x.high)) else None)) (effect.near_distance n)
    by_test true near = passes_if offsets.Admits (Ok (offsets.between (cast_signed w64 x.low) (cast_signed w64 x.high)))
        (Ok (cast_signed w64 n)) (is_offset (cast_signed w64 n)) PointerArithmetic
        (near_offset x.low n x.high admits.above admits.below near)
        (record {
          above = near_above x.low n x.high admits.above admits.below near;
          below =
              near_below x.low n x.high admits.above admits.below near;
        })
    by_test false far = tt

-- the offsets after a move
moved_sound : (found : Option Offsets) (offset : ℤ)
    → ((moved : Offsets) → found ≡ Some moved → IsTrue (is_offset offset) × offsets.Admits moved offset)
    → Sound offsets.Admits (or_cause LeavesArea found) (offset_or offset)
moved_sound None offset all = tt
moved_sound (Some moved) offset all = let there = all moved refl in
    passes_if offsets.Admits (Ok moved) (Ok offset) (is_offset offset) LeavesArea there.0 there.1

tags_related : (x : Kind) (v : Value) → kind.Admits x v → Relate Admits offsets.Admits (tagged_kind x) (tagged_value v)
tags_related Nothing v admits = tt
tags_related (Number x) (value.Number n) admits = admits
tags_related (Record x) (value.Pointer pointer) admits = admits
tags_related (Frame x) (value.Pointer pointer) admits = admits
tags_related x v admits = absurd admits

pointer_related : (into : Area) (x : Offsets) (offset : ℤ) → offsets.Admits x offset
    → kind.Admits (kind_pointer into x) (value.Pointer (record { area = into; offset = offset }))
pointer_related area.Record x offset admits = (refl, admits)
pointer_related area.Frame x offset admits = (refl, admits)

tags_agree : Agree kind_tags value_tags
tags_agree = record {
  Numbers = Admits;
  Offsets = offsets.Admits;
  Distances = offsets.Admits;
  Values = kind.Admits;
  tagged = tags_related;
  number = λ x n admits. admits;
  pointer = pointer_related;
  result = alu_sound;
  low_half = low_half_sound;
  distance = near_sound;
  forwards = λ x offset d distance here by. moved_sound (move_by x d) _ (λ moved is. move_by-admits x d moved offset distance is here by);
  backwards = λ x offset d distance here by. moved_sound (move_back_by x d) _
      (λ moved is. move_back_by-admits x d moved offset distance is here by);
}

pub operate_sound : (operation : Operation) (width : Width) (x y : Kind) (v w : Value) → kind.Admits x v → kind.Admits y w
    → Sound kind.Admits (operate kind_tags operation width x y) (operate value_tags operation width v w)
unfolding tags_agree
operate_sound = operate_agrees kind_tags value_tags tags_agree

pub move_sound : (width : Width) (x : Kind) (v : Value) → kind.Admits x v
    → Sound kind.Admits (move kind_tags width x) (move value_tags width v)
unfolding tags_agree
move_sound = move_agrees kind_tags value_tags tags_agree
