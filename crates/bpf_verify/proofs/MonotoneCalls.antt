-- Calls of helper functions are monotone: a lower state passes every check that a higher one passes, and is lower after the call.
use Rattle.std.proofs.Common.{◌≡◌, ℕ, zero, suc, ◌+◌, pos, Bool, true, false, List, ◌∷◌, ◌++◌, drop, get_or, replicate, Some, Ok, Err}
use Rattle.std.proofs.Common.{if◌then◌else◌, refl, sym, subst, arith}
use Rattle.std.proofs.lemmas.Bool.Decides.{nat_tests}
use Rattle.std.proofs.lemmas.List.{get_or-drop}
use Rattle.bpf_insn.specs.declared.memory.TheConstants.{FRAME_LENGTH}
use Rattle.bpf_kinds.specs.Kind as kind
use Rattle.bpf_kinds.specs.declared.interval.Interval.{Interval}
use Rattle.bpf_kinds.specs.declared.kind.Kind.{Kind}
use Rattle.bpf_kinds.specs.declared.kind.Kind.TheVariants.{Number, Frame, Nothing}
use Rattle.bpf_kinds.specs.declared.offsets.Offsets.{Offsets}
use Rattle.bpf_helpers.specs.Helper.{signature}
use Rattle.bpf_helpers.specs.Group.{frame_use}
use Rattle.bpf_helpers.specs.declared.helper.Helper.{Helper}
use Rattle.bpf_helpers.specs.declared.signature.Argument.{Argument}
use Rattle.bpf_helpers.specs.declared.signature.Argument.TheVariants as argument
use Rattle.bpf_helpers.specs.declared.signature.FrameUse.{FrameUse}
use Rattle.bpf_helpers.specs.declared.signature.FrameUse.TheVariants as frame_use
use Rattle.bpf_meaning.specs.Checks.{Sound}
use Rattle.bpf_meaning.specs.declared.cause.Cause.TheVariants.{OutOfBounds, UnwrittenFrame, BadArgument}
use Rattle.bpf_meaning.proofs.CheckLemmas.{then_sound, passes_if}
use Rattle.bpf_verify.specs.LiftedState.{IsBelow, IsWithinState}
use Rattle.bpf_verify.specs.Transfer.{are_allowed, argument_kind, argument_in, arguments_in, lie_within, lend_bytes, lend_read, lend_frame}
use Rattle.bpf_verify.specs.Transfer.{all_marked, write_bytes, call}
use Rattle.bpf_verify.specs.declared.calls.LentBytes.{LentBytes}
use Rattle.bpf_verify.specs.declared.abstract_state.AbstractState.{AbstractState}
use Rattle.bpf_kinds.proofs.LowerLemmas.{IsLowerInterval, AreLowerOffsets}
use Rattle.bpf_verify.proofs.MonotoneChecks.{IsLower, lower_cases, read_lower}
use Rattle.bpf_verify.proofs.MonotoneMemory.{ChangesBelow, lie_within_falls, all_marked_falls, write_bytes_lower}
use Rattle.bpf_kinds.proofs.KindLemmas as kinds_order

-- arguments

allowed_falls : (allowed x n : Interval) → IsLowerInterval x n → are_allowed allowed x ≡ true → are_allowed allowed n ≡ true
allowed_falls allowed x n is within = let low = is.within.low in let high = is.within.high in grind (arith, nat_tests)

number_lower : (number : ℕ) (allowed x n : Interval) → IsLowerInterval x n
    → Sound IsLower (argument_kind number (argument.Number allowed) (Number x)) (argument_kind number (argument.Number allowed) (Number n))
number_lower number allowed x n is = by_test (are_allowed allowed x) refl
  where
    by_test : (within : Bool) → are_allowed allowed x ≡ within → Sound IsLower (if within then Ok (Number x) else Err (BadArgument number))
        (argument_kind number (argument.Number allowed) (Number n))
    by_test true within = passes_if IsLower (Ok (Number x)) (Ok (Number n)) (are_allowed allowed n) (BadArgument number)
        (allowed_falls allowed x n is within) is
    by_test false without = tt

argument_kind_lower : (number : ℕ) (required : Argument) (x n : Kind) → IsLower x n
    → Sound IsLower (argument_kind number required x) (argument_kind number required n)
argument_kind_lower number argument.Unused x n is = tt
argument_kind_lower number (argument.Number allowed) x n is =
    lower_cases (λ x n. Sound IsLower (argument_kind number (argument.Number allowed) x) (argument_kind number (argument.Number allowed) n))
    (number_lower number allowed) (λ x n are. tt) (λ x n are. tt) (λ n. tt) x n is
argument_kind_lower number argument.Frame x n is =
    lower_cases (λ x n. Sound IsLower (argument_kind number argument.Frame x) (argument_kind number argument.Frame n)) (λ x n is. tt)
    (λ x n are. tt) (λ x n are. are) (λ n. tt) x n is

pub argument_in_lower : (higher lower : AbstractState) → IsBelow lower higher → (number : ℕ) (required : Argument)
    → Sound IsLower (argument_in higher number required) (argument_in lower number required)
argument_in_lower higher lower below number argument.Unused = tt
argument_in_lower higher lower below number (argument.Number allowed) =
    then_sound IsLower IsLower _ _ _ _ (read_lower higher lower below number) (argument_kind_lower number (argument.Number allowed))
argument_in_lower higher lower below number argument.Frame =
    then_sound IsLower IsLower _ _ _ _ (read_lower higher lower below number) (argument_kind_lower number argument.Frame)

record AreArgumentsLower (higher lower : List Kind) : Type 0 where
  second : IsLower (get_or higher 1 Nothing) (get_or lower 1 Nothing)
  third : IsLower (get_or higher 2 Nothing) (get_or lower 2 Nothing)

arguments_lower : (higher lower : AbstractState) → IsBelow lower higher → (required : List Argument)
    → Sound AreArgumentsLower (arguments_in higher required) (arguments_in lower required)
arguments_lower higher lower below required =
    then_sound IsLower AreArgumentsLower _ _ _ _ (argument_in_lower higher lower below 1 (get_or required 0 argument.Unused)) (λ x a one.
    then_sound IsLower AreArgumentsLower _ _ _ _ (argument_in_lower higher lower below 2 (get_or required 1 argument.Unused)) (λ y b two.
    then_sound IsLower AreArgumentsLower _ _ _ _ (argument_in_lower higher lower below 3 (get_or required 2 argument.Unused)) (λ z c three.
    record { second = two; third = three })))

-- bytes of the frame

record AreLentLower (higher lower : LentBytes) : Type 0 where
  offsets : AreLowerOffsets higher.offsets lower.offsets
  count : IsLowerInterval higher.count lower.count
  within : lie_within higher.offsets (pos 0) higher.count.high FRAME_LENGTH ≡ true
  inside : lie_within lower.offsets (pos 0) lower.count.high FRAME_LENGTH ≡ true

frame_lent : (x m : Offsets) (y n : Interval) → AreLowerOffsets x m → IsLowerInterval y n
    → Sound AreLentLower (lend_bytes (Frame x) (Number y)) (lend_bytes (Frame m) (Number n))
frame_lent x m y n from count = by_test (lie_within x (pos 0) y.high FRAME_LENGTH) refl
  where
    by_test : (within : Bool) → lie_within x (pos 0) y.high FRAME_LENGTH ≡ within
        → Sound AreLentLower (if within then Ok (record { offsets = x; count = y }) else Err OutOfBounds) (lend_bytes (Frame m) (Number n))
    by_test true within =
        let inside = lie_within_falls (pos 0) y.high n.high FRAME_LENGTH from count.within.high within in
        passes_if AreLentLower (Ok (record { offsets = x; count = y })) (Ok (record { offsets = m; count = n }))
        (lie_within m (pos 0) n.high FRAME_LENGTH) OutOfBounds inside
        (record { offsets = from; count = count; within = within; inside = inside })
    by_test false outside = tt

lend_bytes_lower : (x y m n : Kind) → IsLower x m → IsLower y n → Sound AreLentLower (lend_bytes x y) (lend_bytes m n)
lend_bytes_lower x y m n from count =
    lower_cases (λ x m. Sound AreLentLower (lend_bytes x y) (lend_bytes m n)) (λ x m is. tt) (λ x m are. tt)
    (λ x m from. lower_cases (λ y n. Sound AreLentLower (lend_bytes (Frame x) y) (lend_bytes (Frame m) n))
    (λ y n count. frame_lent x m y n from count) (λ y n are. tt) (λ y n are. tt) (λ n. tt) y n count)
    (λ m. tt) x m from

written_lower : (higher lower : AbstractState) → IsBelow lower higher → (x n : LentBytes) → AreLentLower x n
    → IsWithinState (write_bytes lower n.offsets (pos 0) n.count.low n.count.high)
    (write_bytes higher x.offsets (pos 0) x.count.low x.count.high)
written_lower higher lower below x n are =
    write_bytes_lower below (pos 0) are.offsets x.count.low x.count.high n.count.low n.count.high are.count.within.low are.count.ordered
    are.count.within.high are.within

lend_read_lower : (higher lower : AbstractState) → IsBelow lower higher → (x n : LentBytes) → AreLentLower x n
    → Sound ChangesBelow (lend_read higher x) (lend_read lower n)
lend_read_lower higher lower below x n are = by_test (all_marked higher x.offsets (pos 0) x.count.high) refl
  where
    by_test : (marked : Bool) → all_marked higher x.offsets (pos 0) x.count.high ≡ marked
        → Sound ChangesBelow (if marked then Ok higher else Err UnwrittenFrame) (lend_read lower n)
    by_test true marked =
        passes_if ChangesBelow (Ok higher) (Ok lower) (all_marked lower n.offsets (pos 0) n.count.high) UnwrittenFrame
        (all_marked_falls below (pos 0) are.offsets x.count.high n.count.high are.count.within.high are.within marked) below.within
    by_test false unmarked = tt

lend_frame_lower : (higher lower : AbstractState) → IsBelow lower higher → (frame : FrameUse) (kinds others : List Kind)
    → AreArgumentsLower kinds others → Sound ChangesBelow (lend_frame higher frame kinds) (lend_frame lower frame others)
lend_frame_lower higher lower below frame_use.Nothing kinds others are = below.within
lend_frame_lower higher lower below frame_use.Writes kinds others are =
    then_sound AreLentLower ChangesBelow _ _ _ _ (lend_bytes_lower (get_or kinds 1 Nothing) (get_or kinds 2 Nothing)
    (get_or others 1 Nothing) (get_or others 2 Nothing) are.second are.third)
    (written_lower higher lower below)
lend_frame_lower higher lower below frame_use.Reads kinds others are =
    then_sound AreLentLower ChangesBelow _ _ _ _ (lend_bytes_lower (get_or kinds 1 Nothing) (get_or kinds 2 Nothing)
    (get_or others 1 Nothing) (get_or others 2 Nothing) are.second are.third)
    (lend_read_lower higher lower below)

-- calls

registers_lower : (kinds others : List Kind) (answer : Interval)
    → ((register : ℕ) → kind.IsWithin (get_or others register Nothing) (get_or kinds register Nothing))
    → (register : ℕ) → kind.IsWithin (get_or (Number answer ∷ replicate 5 Nothing ++ drop 6 others) register Nothing)
    (get_or (Number answer ∷ replicate 5 Nothing ++ drop 6 kinds) register Nothing)
registers_lower kinds others answer all zero = kinds_order.reflexive (Number answer)
registers_lower kinds others answer all (suc (suc (suc (suc (suc (suc register)))))) =
    subst (λ (k : Kind). kind.IsWithin k (get_or (drop 6 kinds) register Nothing)) (sym (get_or-drop 6 others register Nothing))
    (subst (kind.IsWithin (get_or others (6 + register) Nothing)) (sym (get_or-drop 6 kinds register Nothing)) (all (6 + register)))
registers_lower kinds others answer all register = tt

pub call_lower : (higher lower : AbstractState) → IsBelow lower higher → (helper : Helper)
    → Sound ChangesBelow (call higher (Some helper)) (call lower (Some helper))
call_lower higher lower below helper =
    let answer = (signature helper).answer in
    then_sound ChangesBelow ChangesBelow _ _ _ _
    (then_sound AreArgumentsLower ChangesBelow _ _ _ _ (arguments_lower higher lower below (signature helper).arguments)
    (lend_frame_lower higher lower below (frame_use (signature helper).group)))
    (λ after updated within. record {
      registers = registers_lower after.registers updated.registers answer within.registers;
      frame =
          within.frame;
    })
