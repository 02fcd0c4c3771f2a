-- An effect whose checks passed can be applied. A step preserves that a state has all its registers and a whole frame, that its frame holds bytes,
-- and that its pointers are kept apart from written bytes.
use Rattle.std.proofs.Common.{◌≡◌, ℕ, zero, suc, ◌+◌, ◌*◌, ◌/◌, ◌≤◌, ◌<◌, ℤ, pos, negsuc, true, List, [], ◌∷◌, length, map, get_or}
use Rattle.std.proofs.Common.{replicate, unsigned_abs, Option, Some, None, Result, Ok, refl, sym, ap, ◌∙◌, subst, arith, length-set}
use Rattle.std.specs.Int.{bytes_low_first, cast_unsigned, w32}
use Rattle.std.proofs.lemmas.Bool.{false≢true}
use Rattle.std.proofs.lemmas.Bool.Decides.{nat_tests}
use Rattle.std.proofs.lemmas.List.{length-map, length-drop}
use Rattle.bpf_insn.specs.Code.{instruction_at}
use Rattle.bpf_insn.specs.declared.instruction.Insn.{Insn}
use Rattle.bpf_insn.specs.declared.instruction.StoreSize.{StoreSize}
use Rattle.tl_segments.specs.Segment.{SegmentParts, IsSegment}
use Rattle.bpf_insn.specs.declared.value.Pointer.{Pointer}
use Rattle.bpf_insn.specs.Frame.{FrameByte, Byte, IsByte, Unwritten, slot_at}
use Rattle.bpf_meaning.specs.Memory.{store}
use Rattle.bpf_meaning.specs.State.{HoldsBytes, IsWellFormed, SeparatesPointers, start}
use Rattle.bpf_insn.specs.Memory.{store_length}
use Rattle.bpf_helpers.specs.Helper.{by_number}
use Rattle.bpf_meaning.specs.Effect.{effect, effect_of, lie_within, CanBeMade, CanBeCarriedOut}
use Rattle.bpf_meaning.specs.Step.{Configuration, Running, after, carry_out, next_of}
use Rattle.bpf_meaning.specs.Run.{Step, FollowSteps, IsRun, last_of, end_of}
use Rattle.bpf_meaning.specs.declared.cause.Cause.{Cause}
use Rattle.bpf_meaning.specs.declared.effect.Change.{Change}
use Rattle.bpf_meaning.specs.declared.effect.Change.TheVariants.{Nothing, SetRegister, StoreBytes, StorePointer, CallHelper}
use Rattle.bpf_meaning.specs.declared.effect.Effect.{Effect}
use Rattle.bpf_meaning.specs.declared.effect.Effect.TheVariants.{Continue}
use Rattle.bpf_insn.specs.declared.memory.TheConstants.{FRAME_LENGTH, SLOT_LENGTH, SLOTS}
use Rattle.bpf_meaning.specs.declared.state.State.{State}
use Rattle.bpf_meaning.proofs.MemoryLemmas.{length-bytes_low_first, store_is_write}
use Rattle.bpf_meaning.proofs.FrameLemmas.{bytes-store, bytes-write}
use Rattle.bpf_insn.proofs.SlotLemmas.{slot_at-is}
use Rattle.bpf_meaning.proofs.SlotLemmas.{apart-set_slot_pointer, apart-store_number, length-overwrite_slots}
use Rattle.bpf_helpers.proofs.WriteLemmas.{length-write}
use Rattle.bpf_meaning.proofs.EffectLemmas.{ContinuesWith, ChangesSatisfy, effect_satisfies}
use Rattle.bpf_meaning.proofs.CallLemmas.{IfPasses, apart-frame_after, bytes-frame_after, called_can_be_made, length-frame_after}
use Rattle.bpf_meaning.proofs.CallLemmas.{length-slots_after}

-- effects can be applied

pub inside_ends : (from : ℤ) (count bytes : ℕ) → lie_within from count bytes ≡ true → unsigned_abs from + count ≤ bytes
inside_ends (pos n) count bytes inside = grind (arith, nat_tests)
inside_ends (negsuc n) count bytes inside = absurd (false≢true inside)

slot_within : (from : ℤ) (size : StoreSize) (slot : ℕ) → slot_at (unsigned_abs from) (store_length size) ≡ Some slot
    → lie_within from (store_length size) FRAME_LENGTH ≡ true → slot < SLOTS
slot_within from size slot is inside =
    let found = slot_at-is (unsigned_abs from) (store_length size) slot is in
    let all = found.0 in
    let place = found.1 in
    let ends = inside_ends from (store_length size) FRAME_LENGTH inside in
    omega (arith, all, place, ends)

changes_within : (state : State) (insn : Insn) → ChangesSatisfy state insn (CanBeMade state)
changes_within state insn = record {
  nothing = tt;
  set = λ register value. tt;
  store_bytes = λ from size number inside. inside_ends from (store_length size) FRAME_LENGTH inside;
  store_pointer = λ from size pointer slot is inside. slot_within from size slot is inside;
  call = λ immediate is. called_can_be_made state (by_number (cast_unsigned w32 immediate));
}

carried_out : (state : State) (result : Result Effect Cause) → IfPasses (ContinuesWith (CanBeMade state)) result
    → IfPasses (CanBeCarriedOut state) result
carried_out state (Ok (Continue change place)) can = can
carried_out state result can = tt

found_within : (code : List Insn) (segment : SegmentParts) (state : State) (found : Option Insn)
    → IfPasses (CanBeCarriedOut state) (effect_of code segment state found)
found_within code segment state None = tt
found_within code segment state (Some insn) = carried_out state _
    (effect_satisfies code segment state _ (CanBeMade state) insn (changes_within state insn))

pub effect_within : (code : List Insn) (segment : SegmentParts) (state : State) (does : Effect) → Ok does ≡ effect code segment state
    → CanBeCarriedOut state does
effect_within code segment state does is = subst (IfPasses (CanBeCarriedOut state)) (sym is)
    (found_within code segment state (instruction_at code state.place))

-- a frame keeps its length when it is written
length-store : (memory : List FrameByte) (at count number : ℕ) → at + count ≤ length memory
    → length (store memory at count number) ≡ length memory
length-store memory at count number within =
    let long : length (map Byte (bytes_low_first 0 count number)) ≡ count =
    length-map (bytes_low_first 0 count number) Byte ∙ length-bytes_low_first 0 count number in
    ap (λ (m : List FrameByte). length m) (store_is_write memory at count number)
    ∙ length-write memory (map Byte (bytes_low_first 0 count number)) at (omega arith)

-- if a configuration is running, its state is such a state
abbrev pub IfRunning : (State → Type 0) → Configuration → Type 0
IfRunning Property (Running state) = Property state
IfRunning Property configuration = Unit {0}

-- a property of states that each change preserves, wherever the program goes on
abbrev IsPreserved : (State → Type 0) → SegmentParts → Type 0
IsPreserved Property segment = (state : State) (change : Change) (place : ℕ) → CanBeMade state change → Property state
    → Property (record (carry_out segment state change) { place = place })

-- each step preserves what each change preserves, and what holds at the start holds throughout a run
module _ (Property : State → Type 0) (segment : SegmentParts) (preserved : IsPreserved Property segment) (code : List Insn) where
  applies : (state : State) (result : Result Effect Cause) → IfPasses (CanBeCarriedOut state) result → Property state
      → IfRunning Property (next_of segment state result)
  applies state (Ok (Continue change place)) can satisfied = preserved state change place can satisfied
  applies state result can satisfied = tt

  step_keeps : (state there : State) → Property state → Step code segment (Running state) (Running there) → Property there
  unfolding after
  step_keeps state there satisfied step =
      subst (IfRunning Property) (sym step)
      (applies state (effect code segment state) (found_within code segment state (instruction_at code state.place)) satisfied)

  along_run : (from : Configuration) (run : List Configuration) → IfRunning Property from → FollowSteps code segment from run
      → IfRunning Property (last_of from run)
  along_run from [] satisfied follow = satisfied
  along_run (Running here) (Running there ∷ run) satisfied follow =
      along_run (Running there) run (step_keeps here there satisfied follow.0) follow.1
  along_run (Running here) (next ∷ run) satisfied follow = along_run next run tt follow.1
  along_run from (next ∷ run) satisfied follow = absurd follow.0

  run_keeps : (run : List Configuration) (state : State) → Property start → IsRun code segment run → end_of run ≡ Running state → Property state
  run_keeps run state satisfied is_run end = subst (IfRunning Property) end (along_run (Running start) run satisfied is_run)

-- a state with all its registers and a whole frame keeps them

carry_out_well_formed : (segment : SegmentParts) → IsPreserved IsWellFormed segment
carry_out_well_formed segment state Nothing place can whole =
    record { registers = whole.registers; frame = whole.frame; slots = whole.slots }
carry_out_well_formed segment state (SetRegister register value) place can whole =
    record { registers = simp length-set whole.registers; frame = whole.frame; slots = whole.slots }
carry_out_well_formed segment state (StoreBytes at size number) place can whole = record {
  registers = whole.registers;
  frame = let same = whole.frame in length-store state.frame.bytes at (store_length size) number (omega arith) ∙ whole.frame;
  slots = let count = whole.slots in length-overwrite_slots None state.frame.slots at (store_length size) (omega arith) ∙ whole.slots;
}
carry_out_well_formed segment state (StorePointer slot pointer) place can whole = record {
  registers = whole.registers;
  frame = let same = whole.frame in length-write state.frame.bytes (replicate SLOT_LENGTH Unwritten) (SLOT_LENGTH * slot) (omega arith)
      ∙ whole.frame;
  slots = simp length-set whole.slots;
}
carry_out_well_formed segment state (CallHelper helper arguments) place can whole = record {
  registers = let beyond = length-drop 6 state.registers in let all = whole.registers in omega arith;
  frame = length-frame_after segment state helper arguments can whole.frame;
  slots = length-slots_after segment state helper arguments can whole.slots;
}

-- a step from a whole state leads to a whole state
pub step_well_formed : (code : List Insn) (segment : SegmentParts) (state there : State) → IsWellFormed state
    → Step code segment (Running state) (Running there) → IsWellFormed there
step_well_formed code segment = step_keeps IsWellFormed segment (carry_out_well_formed segment) code

start_well_formed : IsWellFormed start
start_well_formed = record { registers = refl; frame = refl; slots = refl }

-- each state that a run reaches is whole
pub run_well_formed : (code : List Insn) (segment : SegmentParts) (run : List Configuration) (state : State) → IsRun code segment run
    → end_of run ≡ Running state → IsWellFormed state
run_well_formed code segment run state = run_keeps IsWellFormed segment (carry_out_well_formed segment) code run state start_well_formed

-- the frame of a state holds bytes, and a step on a segment preserves this

unwritten_bytes : (count at : ℕ) → IsByte (get_or (replicate count Unwritten) at Unwritten)
unwritten_bytes zero at = tt
unwritten_bytes (suc count) zero = tt
unwritten_bytes (suc count) (suc at) = unwritten_bytes count at

pub start_bytes : HoldsBytes start
start_bytes = record { frame = unwritten_bytes FRAME_LENGTH }

carries_out_bytes : (segment : SegmentParts) → IsSegment segment → IsPreserved HoldsBytes segment
carries_out_bytes segment is state (StoreBytes at size number) place can holds =
    record { frame = bytes-store state.frame.bytes at (store_length size) number holds.frame }
carries_out_bytes segment is state (StorePointer slot pointer) place can holds =
    record {
      frame = bytes-write state.frame.bytes (SLOT_LENGTH * slot) (replicate SLOT_LENGTH Unwritten) holds.frame
          (unwritten_bytes SLOT_LENGTH);
    }
carries_out_bytes segment is state (CallHelper helper arguments) place can holds =
    record { frame = bytes-frame_after segment state helper arguments is can holds.frame }
carries_out_bytes segment is state change place can holds = record { frame = holds.frame }

pub step_bytes : (code : List Insn) (segment : SegmentParts) (state there : State) → IsSegment segment → HoldsBytes state
    → Step code segment (Running state) (Running there) → HoldsBytes there
step_bytes code segment state there is = step_keeps HoldsBytes segment (carries_out_bytes segment is) code state there

pub run_bytes : (code : List Insn) (segment : SegmentParts) (run : List Configuration) (state : State) → IsSegment segment
    → IsRun code segment run → end_of run ≡ Running state → HoldsBytes state
run_bytes code segment run state is = run_keeps HoldsBytes segment (carries_out_bytes segment is) code run state start_bytes

-- written bytes lie in slots that hold no pointer, and a step from a whole state preserves this

abbrev IsWellFormedAndApart : State → Type 0
IsWellFormedAndApart state = IsWellFormed state × SeparatesPointers state

start_apart : SeparatesPointers start
start_apart = record { written = λ at written. slots_hold_nothing SLOTS (at / SLOT_LENGTH) }
  where
    slots_hold_nothing : (count at : ℕ) → (let none : Option Pointer = None in get_or (replicate count none) at None ≡ None)
    slots_hold_nothing zero at = refl
    slots_hold_nothing (suc count) zero = refl
    slots_hold_nothing (suc count) (suc at) = slots_hold_nothing count at

carries_out_apart : (segment : SegmentParts) (state : State) (change : Change) → CanBeMade state change → IsWellFormed state
    → SeparatesPointers state → SeparatesPointers (carry_out segment state change)
carries_out_apart segment state (StoreBytes at size number) can whole keeps =
    let bytes = whole.frame in
    let slots = whole.slots in
    record { written = apart-store_number state.frame at (store_length size) number (omega arith) (omega arith) keeps.written }
carries_out_apart segment state (StorePointer slot pointer) can whole keeps =
    let bytes = whole.frame in record { written = apart-set_slot_pointer state.frame slot pointer (omega arith) keeps.written }
carries_out_apart segment state (CallHelper helper arguments) can whole keeps =
    record { written = apart-frame_after segment state helper arguments can whole.frame whole.slots keeps.written }
carries_out_apart segment state change can whole keeps = record { written = keeps.written }

carries_out_both : (segment : SegmentParts) → IsPreserved IsWellFormedAndApart segment
carries_out_both segment state change place can both = (
  carry_out_well_formed segment state change place can both.0,
  record { written = (carries_out_apart segment state change can both.0 both.1).written },
)

pub step_apart : (code : List Insn) (segment : SegmentParts) (state there : State) → IsWellFormed state → SeparatesPointers state
    → Step code segment (Running state) (Running there) → SeparatesPointers there
step_apart code segment state there whole keeps step =
    (step_keeps IsWellFormedAndApart segment (carries_out_both segment) code state there (whole, keeps) step).1

pub run_apart : (code : List Insn) (segment : SegmentParts) (run : List Configuration) (state : State) → IsRun code segment run
    → end_of run ≡ Running state → SeparatesPointers state
run_apart code segment run state is_run end =
    (run_keeps IsWellFormedAndApart segment (carries_out_both segment) code run state (start_well_formed, start_apart) is_run end).1
