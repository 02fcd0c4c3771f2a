-- The transfer function is monotone: if no check of an instruction fails in a state, none fails in a lower one, and the state after it is lower
-- too.
use Rattle.std.proofs.Common.{◌≡◌, Result, Ok, Err, refl, sym, ◌∙◌, subst}
use Rattle.bpf_insn.specs.Arithmetic as arithmetic
use Rattle.bpf_insn.specs.Arithmetic.{operand_bits, low_bits}
use Rattle.bpf_insn.specs.declared.instruction.Insn.{Insn}
use Rattle.bpf_insn.specs.declared.instruction.Source.TheVariants.{Immediate, Register}
use Rattle.bpf_meaning.specs.Checks.{Sound}
use Rattle.bpf_meaning.specs.Walk.{walk}
use Rattle.bpf_meaning.specs.declared.cause.Cause.{Cause}
use Rattle.bpf_meaning.proofs.WalkForesees.{Foresees, walk_foreseen, any_fits}
use Rattle.bpf_verify.specs.LiftedState.{IsBelow, LiftedState, Unreached, Reached, Edges, AreEdgesWithin, IsProper, IsWithin}
use Rattle.bpf_verify.specs.LiftedState.{IsWithinState}
use Rattle.bpf_verify.specs.Transfer.{kinds, transfer}
use Rattle.bpf_verify.specs.declared.abstract_state.AbstractState.{AbstractState}
use Rattle.bpf_kinds.proofs.LowerLemmas.{IsLowerInterval, AreLowerOffsets}
use Rattle.bpf_verify.proofs.MonotoneChecks.{IsLower, is_within, single_lower, read_lower, number_or_lower}
use Rattle.bpf_verify.proofs.MonotoneChecks.{operate_lower, move_lower}
use Rattle.bpf_verify.proofs.MonotoneMemory.{ArePointersLower, ChangesBelow, pointers_lower, load_from_lower, frame_offsets_lower}
use Rattle.bpf_verify.proofs.MonotoneMemory.{store_at_lower, with_kind_lower}
use Rattle.bpf_verify.proofs.MonotoneCalls.{call_lower}
use Rattle.bpf_verify.proofs.MonotoneComparison.{EdgesBelow, compare_lower}
use Rattle.bpf_verify.proofs.SoundComparison.{with_source}
use Rattle.bpf_kinds.proofs.ResultsMonotone.{negate_is_monotone, negate_ordered, extend_is_monotone, extend_ordered, byte_swap_is_monotone, byte_swap_ordered}

on_to_next : (higher lower : AbstractState) → IsWithinState lower higher
    → EdgesBelow (record { next = Reached higher; target = Unreached }) (record { next = Reached lower; target = Unreached })
on_to_next higher lower within = record { next = within; target = tt }

-- each step of an instruction
kinds_are_monotone : (higher lower : AbstractState) → IsBelow lower higher → (insn : Insn) → Foresees (kinds higher) (kinds lower) insn
kinds_are_monotone higher lower below insn = record {
  Fits = λ immediate. Unit {0};
  Read = λ register. IsLower;
  Values = IsLower;
  Numbers = IsLowerInterval;
  Stored = IsLower;
  Pointers = ArePointersLower;
  Offsets = λ offset. AreLowerOffsets;
  Changes = ChangesBelow;
  Outcomes = EdgesBelow;
  read = read_lower higher lower below;
  any = λ register x n is. is;
  number_or = λ cause register x n is. number_or_lower cause x n is;
  stored = λ register x n is. is;
  stored_immediate = λ immediate fits. single_lower (arithmetic.immediate_operand immediate);
  pointer_in = pointers_lower higher lower below;
  immediate = λ immediate fits. single_lower (arithmetic.immediate_operand immediate);
  wide = λ immediate next fits. single_lower (arithmetic.wide_number immediate next);
  extend = λ extension x n is. record {
    within = extend_is_monotone extension n x is.ordered is.within;
    ordered =
        extend_ordered extension n is.ordered;
  };
  negate = λ width x n is. record { within = negate_is_monotone width n x is.ordered is.within; ordered = negate_ordered width n is.ordered };
  byte_swap = λ order width x n is. record {
    within = byte_swap_is_monotone order width n x is.ordered is.within;
    ordered =
        byte_swap_ordered order width n is.ordered;
  };
  move = move_lower;
  operate = operate_lower;
  load = load_from_lower higher lower below;
  frame = λ p q offset are. frame_offsets_lower p q are;
  store_at = λ x n offset size k l is stored. store_at_lower below offset is size k l stored;
  call = call_lower higher lower below;
  set = λ continues destination x n is. on_to_next _ _
      (with_kind_lower higher lower destination.number x n (below.proper.count ∙ sym below.proper_higher.count) below.within
      (is_within x n is));
  continue_with = λ continues updated after within. on_to_next updated after within;
  jump = λ distance jumps. record { next = tt; target = below.within };
  with_immediate = λ jump immediate may fits left.
      compare_lower below (with_source jump.condition jump.width jump.left (Immediate immediate)) left.first _ left.second _ left.is
      (single_lower (low_bits (operand_bits jump.width) (arithmetic.immediate_operand immediate)));
  with_register = λ jump right may left compared.
      compare_lower below (with_source jump.condition jump.width jump.left (Register right)) left.first compared.first left.second
      compared.second left.is compared.is;
  end = λ x n is. record { next = tt; target = tt };
}

walk_is_monotone : (higher lower : AbstractState) → IsBelow lower higher → (insn : Insn)
    → Sound EdgesBelow (walk (kinds higher) insn) (walk (kinds lower) insn)
unfolding kinds_are_monotone
walk_is_monotone higher lower below insn = walk_foreseen (kinds higher) (kinds lower) insn (kinds_are_monotone higher lower below insn) (any_fits insn)

transfer_sound : (insn : Insn) (lower higher : LiftedState) → IsProper lower → IsProper higher → IsWithin lower higher
    → Sound EdgesBelow (transfer higher insn) (transfer lower insn)
transfer_sound insn Unreached Unreached proper above within = record { next = tt; target = tt }
transfer_sound insn Unreached (Reached higher) proper above within = nothing_below (walk (kinds higher) insn)
  where
    nothing_below : (found : Result Edges Cause) → Sound EdgesBelow found (Ok (record { next = Unreached; target = Unreached }))
    nothing_below (Ok edges) = record { next = tt; target = tt }
    nothing_below (Err cause) = tt
transfer_sound insn (Reached lower) Unreached proper above within = absurd within
transfer_sound insn (Reached lower) (Reached higher) proper above within =
    walk_is_monotone higher lower (record { proper_higher = above; proper = proper; within = within }) insn

pub same_edges : (x y : Edges) (found : Result Edges Cause) → found ≡ Ok x → found ≡ Ok y → x ≡ y
same_edges x y found one other = cc

found_sound : (found other : Result Edges Cause) (edges : Edges) → Sound EdgesBelow found other → found ≡ Ok edges → (below : Edges)
    × (other ≡ Ok below) × AreEdgesWithin below edges
found_sound (Ok found) (Ok below) edges sound is =
    (below, refl, subst (λ (e : Edges). AreEdgesWithin below e) (same_edges found edges (Ok found) refl is) sound)
found_sound (Ok found) (Err cause) edges sound is = absurd sound
found_sound (Err cause) other edges sound is = cc

pub upward : (insn : Insn) (lower higher : LiftedState) (edges : Edges) → IsProper lower → IsProper higher → IsWithin lower higher
    → transfer higher insn ≡ Ok edges → (below : Edges) × (transfer lower insn ≡ Ok below) × AreEdgesWithin below edges
upward insn lower higher edges proper above within passes = found_sound (transfer higher insn) (transfer lower insn) edges
    (transfer_sound insn lower higher proper above within) passes
