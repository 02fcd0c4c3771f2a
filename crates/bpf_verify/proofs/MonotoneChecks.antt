-- Checks of values are monotone: a check that passes on a higher kind passes on a lower one, with a lower result.
use Rattle.std.proofs.Common.{◌≡◌, ℕ, ◌≤ℤ◌, Option, Some, None, Ok, refl, sym, subst, arith}
use Rattle.bpf_insn.specs.declared.instruction.Operation.{Operation}
use Rattle.bpf_insn.specs.declared.instruction.Width.{Width}
use Rattle.bpf_insn.specs.declared.value.Area.{Area}
use Rattle.bpf_insn.specs.declared.value.Area.TheVariants as area
use Rattle.std.specs.Int.{w32}
use Rattle.bpf_kinds.specs.Interval as interval
use Rattle.bpf_kinds.specs.Interval.{single}
use Rattle.bpf_kinds.specs.Kind as kind
use Rattle.bpf_kinds.specs.Offsets as offsets
use Rattle.bpf_kinds.specs.Moving.{near_distances, move_by, move_back_by}
use Rattle.bpf_kinds.specs.Results.{alu}
use Rattle.bpf_kinds.specs.declared.interval.Interval.{Interval}
use Rattle.bpf_kinds.specs.declared.kind.Kind.{Kind}
use Rattle.bpf_kinds.specs.declared.kind.Kind.TheVariants.{Number, Record, Frame, Nothing}
use Rattle.bpf_kinds.specs.declared.offsets.Offsets.{Offsets}
use Rattle.bpf_meaning.specs.Checks.{Sound}
use Rattle.bpf_meaning.specs.Tags.{operate, move}
use Rattle.bpf_meaning.specs.declared.cause.Cause.{Cause}
use Rattle.bpf_meaning.specs.declared.cause.Cause.TheVariants.{PointerArithmetic, LeavesArea}
use Rattle.bpf_meaning.proofs.TagLemmas.{Relate, Agree, operate_agrees, move_agrees}
use Rattle.bpf_verify.specs.LiftedState.{IsBelow, kind_of}
use Rattle.bpf_verify.specs.Transfer.{read_kind, read, number_or, or_cause, tagged_kind, kind_pointer, kind_tags}
use Rattle.bpf_verify.specs.declared.abstract_state.AbstractState.{AbstractState}
use Rattle.bpf_kinds.proofs.KindLemmas.{within-nothing}
use Rattle.bpf_kinds.proofs.LowerLemmas.{IsLowerInterval, AreLowerOffsets}
use Rattle.bpf_kinds.proofs.MovingMonotone.{near_is_monotone, move_by_is_monotone, move_back_by_is_monotone}
use Rattle.bpf_kinds.proofs.ResultsMonotone.{cut_is_monotone, cut_ordered, alu_is_monotone, alu_ordered}

-- Kinds that lie within others, and whose ends are in order. Nothing is required of the outer ones.

abbrev pub IsLower : Kind → Kind → Type 0
IsLower (Number x) (Number n) = IsLowerInterval x n
IsLower (Record x) (Record n) = AreLowerOffsets x n
IsLower (Frame x) (Frame n) = AreLowerOffsets x n
IsLower Nothing lower = Unit {0}
IsLower higher lower = ⊥

pub is_lower : (x n : Kind) → kind.IsWithin n x → kind.IsProper n → IsLower x n
is_lower (Number x) (Number n) within proper = record { within = within; ordered = proper.ordered }
is_lower (Record x) (Record n) within proper = record { within = within; ordered = proper.ordered }
is_lower (Frame x) (Frame n) within proper = record { within = within; ordered = proper.ordered }
is_lower Nothing n within proper = tt
is_lower x n within proper = absurd within

-- such kinds, case by case
pub lower_cases : (Property : Kind → Kind → Type 0) → ((x n : Interval) → IsLowerInterval x n → Property (Number x) (Number n))
    → ((x n : Offsets) → AreLowerOffsets x n → Property (Record x) (Record n))
    → ((x n : Offsets) → AreLowerOffsets x n → Property (Frame x) (Frame n)) → ((n : Kind) → Property Nothing n)
    → (x n : Kind) → IsLower x n → Property x n
lower_cases Property numbers records frames nothing (Number x) (Number n) is = numbers x n is
lower_cases Property numbers records frames nothing (Record x) (Record n) is = records x n is
lower_cases Property numbers records frames nothing (Frame x) (Frame n) is = frames x n is
lower_cases Property numbers records frames nothing Nothing n is = nothing n
lower_cases Property numbers records frames nothing x n is = absurd is

pub is_within : (x n : Kind) → IsLower x n → kind.IsWithin n x
is_within = lower_cases (λ x n. kind.IsWithin n x) (λ x n is. is.within) (λ x n are. are.within) (λ x n are. are.within) within-nothing

pub single_lower : (n : ℕ) → IsLowerInterval (single n) (single n)
single_lower n = record { within = record { low = omega arith; high = omega arith }; ordered = omega arith }

-- reading

read_kind_lower : (register : ℕ) (x n : Kind) → IsLower x n → Sound IsLower (read_kind register x) (read_kind register n)
read_kind_lower register = lower_cases (λ x n. Sound IsLower (read_kind register x) (read_kind register n)) (λ x n is. is) (λ x n are. are)
    (λ x n are. are) (λ n. tt)

pub read_lower : (higher lower : AbstractState) → IsBelow lower higher → (register : ℕ) → Sound IsLower (read higher register) (read lower register)
read_lower higher lower below register =
    read_kind_lower register (kind_of higher register) (kind_of lower register)
    (is_lower (kind_of higher register) (kind_of lower register) (below.within.registers register) (below.proper.kinds register))

pub number_or_lower : (cause : Cause) (x n : Kind) → IsLower x n → Sound IsLowerInterval (number_or cause x) (number_or cause n)
number_or_lower cause = lower_cases (λ x n. Sound IsLowerInterval (number_or cause x) (number_or cause n)) (λ x n is. is) (λ x n are. tt)
    (λ x n are. tt) (λ n. tt)

-- arithmetic

alu_lower : (operation : Operation) (width : Width) (x y m n : Interval) → IsLowerInterval x m → IsLowerInterval y n
    → IsLowerInterval (alu operation width x y) (alu operation width m n)
alu_lower operation width x y m n left right = record {
  within = alu_is_monotone operation width left right;
  ordered = alu_ordered operation width m n left.ordered right.ordered;
}

low_half_lower : (x n : Interval) → IsLowerInterval x n → IsLowerInterval (interval.cut w32 x) (interval.cut w32 n)
low_half_lower x n is = record { within = cut_is_monotone w32 n x is.ordered is.within; ordered = cut_ordered w32 n is.ordered }

found_lower : (cause : Cause) (found other : Option Offsets)
    → ((x : Offsets) → found ≡ Some x → (nearer : Offsets) × (other ≡ Some nearer) × offsets.IsWithin nearer x
    × (nearer.low ≤ℤ nearer.high)) → Sound AreLowerOffsets (or_cause cause found) (or_cause cause other)
found_lower cause None other all = tt
found_lower cause (Some x) other all =
    let there = all x refl in
    subst (λ (o : Option Offsets). Sound AreLowerOffsets (Ok x) (or_cause cause o)) (sym there.1)
    (record { within = there.2; ordered = there.3 })

tags_lower : (x n : Kind) → IsLower x n → Relate IsLowerInterval AreLowerOffsets (tagged_kind x) (tagged_kind n)
tags_lower = lower_cases (λ x n. Relate IsLowerInterval AreLowerOffsets (tagged_kind x) (tagged_kind n)) (λ x n is. is)
    (λ x n are. (refl, are)) (λ x n are. (refl, are)) (λ n. tt)

pointer_lower : (into : Area) (x n : Offsets) → AreLowerOffsets x n → IsLower (kind_pointer into x) (kind_pointer into n)
pointer_lower area.Record x n is = is
pointer_lower area.Frame x n is = is

kinds_agree : Agree kind_tags kind_tags
kinds_agree = record {
  Numbers = IsLowerInterval;
  Offsets = AreLowerOffsets;
  Distances = AreLowerOffsets;
  Values = IsLower;
  tagged = tags_lower;
  number = λ x n is. is;
  pointer = pointer_lower;
  result = alu_lower;
  low_half = low_half_lower;
  distance = λ x n is. found_lower PointerArithmetic (near_distances x) (near_distances n)
      (λ distances found. near_is_monotone n x distances is.ordered is.within found);
  forwards = λ x n d e here by. found_lower LeavesArea (move_by x d) (move_by n e)
      (λ moved found. move_by_is_monotone here by found);
  backwards = λ x n d e here by. found_lower LeavesArea (move_back_by x d) (move_back_by n e)
      (λ moved found. move_back_by_is_monotone here by found);
}

pub operate_lower : (operation : Operation) (width : Width) (x y m n : Kind) → IsLower x m → IsLower y n
    → Sound IsLower (operate kind_tags operation width x y) (operate kind_tags operation width m n)
unfolding kinds_agree
operate_lower = operate_agrees kind_tags kind_tags kinds_agree

pub move_lower : (width : Width) (x n : Kind) → IsLower x n → Sound IsLower (move kind_tags width x) (move kind_tags width n)
unfolding kinds_agree
move_lower = move_agrees kind_tags kind_tags kinds_agree
