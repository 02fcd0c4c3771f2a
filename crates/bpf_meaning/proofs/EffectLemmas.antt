-- What holds of each change that an instruction may make holds of its effect.
use Rattle.std.proofs.Common.{◌≡◌, ℕ, ◌+◌, ℤ, pos, negsuc, ◌+ℤ◌, nat_lt, unsigned_abs, Bool, true, false, IsTrue, is_some, List, Option}
use Rattle.std.proofs.Common.{Some, None, Result, Ok, Err, if◌then◌else◌, refl, sym, subst}
use Rattle.std.specs.Int.{cast_unsigned, w32}
use Rattle.bpf_insn.specs.Code.{instruction_at, word_count}
use Rattle.bpf_insn.specs.declared.instruction.Insn.{Insn}
use Rattle.bpf_insn.specs.declared.instruction.Insn.TheVariants.{Alu, MoveSignExtended, Negate, ByteSwap, JumpIf, Jump, Call, Exit, Load}
use Rattle.bpf_insn.specs.declared.instruction.Insn.TheVariants.{StoreImmediate, Store, WideLoad}
use Rattle.bpf_insn.specs.declared.instruction.Source.{Source}
use Rattle.bpf_insn.specs.declared.instruction.Source.TheVariants.{Immediate, Register}
use Rattle.bpf_insn.specs.declared.instruction.StoreSize.{StoreSize}
use Rattle.bpf_insn.specs.declared.register.WritableRegister.{WritableRegister}
use Rattle.bpf_insn.specs.declared.memory.TheConstants.{FRAME_LENGTH}
use Rattle.bpf_insn.specs.declared.value.Pointer.{Pointer}
use Rattle.bpf_insn.specs.declared.value.Value.{Value}
use Rattle.bpf_insn.specs.declared.value.Value.TheVariants as value
use Rattle.bpf_insn.specs.Frame.{slot_at}
use Rattle.bpf_insn.specs.Memory.{store_length}
use Rattle.bpf_helpers.specs.Helper.{by_number}
use Rattle.tl_segments.specs.Segment.{SegmentParts}
use Rattle.bpf_meaning.specs.Checks.{◌>>=◌}
use Rattle.bpf_meaning.specs.Effect.{call_change, compare, frame_offset, continue_with, continue_at, instruction_effect, jump, lie_within, number_or}
use Rattle.bpf_meaning.specs.Effect.{operand, pointer_in, read, set_register, store_at, store_change, store_pointer, value_registers}
use Rattle.bpf_meaning.specs.Walk.{compared_operand}
use Rattle.bpf_meaning.specs.declared.cause.Cause.{Cause}
use Rattle.bpf_meaning.specs.declared.cause.Cause.TheVariants.{OutOfProgram, IntoWide, OutOfBounds, ExitNotNumber}
use Rattle.bpf_meaning.specs.declared.effect.Change.{Change}
use Rattle.bpf_meaning.specs.declared.effect.Change.TheVariants.{Nothing, SetRegister, StoreBytes, StorePointer}
use Rattle.bpf_meaning.specs.declared.effect.Effect.{Effect}
use Rattle.bpf_meaning.specs.declared.effect.Effect.TheVariants.{Continue, End}
use Rattle.bpf_meaning.specs.declared.state.State.{State}
use Rattle.bpf_meaning.proofs.CallLemmas.{IfPasses, then_passes, then_keeps}
use Rattle.bpf_meaning.proofs.SlotLemmas.{store_pointer-none, store_pointer-slot}

-- an effect that goes on has such a change
abbrev pub ContinuesWith : (Change → Type 0) → Effect → Type 0
ContinuesWith Property (Continue change place) = Property change
ContinuesWith Property (End answer) = Unit {0}

pub continues_with : (Property : Change → Type 0) (code : List Insn) (place : ℕ) (change : Change) → Property change
    → IfPasses (ContinuesWith Property) (continue_with code place change)
continues_with Property code place change satisfied = by_test (is_some (instruction_at code place)) (nat_lt place (word_count code))
  where
    by_test : (begins inside : Bool) → IfPasses (ContinuesWith Property)
        (if begins then Ok (Continue change place) else (if inside then Err IntoWide else Err OutOfProgram))
    by_test true inside = satisfied
    by_test false true = tt
    by_test false false = tt

-- each change that an instruction may make is such a change
pub record ChangesSatisfy (state : State) (insn : Insn) (Property : Change → Type 0) : Type 0 where
  pub nothing : Property Nothing
  pub set : (register : WritableRegister) (value : Value) → Property (SetRegister register value)
  pub store_bytes : (from : ℤ) (size : StoreSize) (number : ℕ) → IsTrue (lie_within from (store_length size) FRAME_LENGTH)
      → Property (StoreBytes (unsigned_abs from) size number)
  pub store_pointer : (from : ℤ) (size : StoreSize) (pointer : Pointer) (slot : ℕ)
      → slot_at (unsigned_abs from) (store_length size) ≡ Some slot → IsTrue (lie_within from (store_length size) FRAME_LENGTH)
      → Property (StorePointer slot pointer)
  pub call : (immediate : ℤ) → insn ≡ Call immediate → IfPasses Property (call_change state (by_number (cast_unsigned w32 immediate)))

-- a change that is made only if a test holds is such a change
tested : (Property : Change → Type 0) (change : Change) (cause : Cause) (test : Bool) → (IsTrue test → Property change)
    → IfPasses Property (if test then Ok change else Err cause)
tested Property change cause true satisfied = satisfied refl
tested Property change cause false satisfied = tt

stores_satisfy : (state : State) (insn : Insn) (Property : Change → Type 0) → ChangesSatisfy state insn Property
    → (from : ℤ) (size : StoreSize) (value : Value) → IfPasses Property (store_at from size value)
stores_satisfy state insn Property are from size value.Empty = tt
stores_satisfy state insn Property are from size (value.Number number) =
    tested Property (StoreBytes (unsigned_abs from) size number) OutOfBounds (lie_within from (store_length size) FRAME_LENGTH)
    (are.store_bytes from size number)
stores_satisfy state insn Property are from size (value.Pointer pointer) = by_slot (slot_at (unsigned_abs from) (store_length size)) refl
  where
    by_slot : (found : Option ℕ) → slot_at (unsigned_abs from) (store_length size) ≡ found → IfPasses Property (store_pointer from size pointer)
    by_slot None is = subst (IfPasses Property) (sym (store_pointer-none from size pointer is)) tt
    by_slot (Some slot) is =
        subst (IfPasses Property) (sym (store_pointer-slot from size pointer slot is))
        (tested Property (StorePointer slot pointer) OutOfBounds (lie_within from (store_length size) FRAME_LENGTH)
        (are.store_pointer from size pointer slot is))

module _ (code : List Insn) (segment : SegmentParts) (state : State) (next : ℕ) (Property : Change → Type 0) where
  jumps : Property Nothing → (place : ℤ) → IfPasses (ContinuesWith Property) (continue_at code place)
  jumps nothing (pos place) = continues_with Property code place Nothing nothing
  jumps nothing (negsuc before) = tt

  branches : Property Nothing → (distance : ℤ) (taken : Bool) → IfPasses (ContinuesWith Property)
      (if taken then jump code state.place distance else continue_with code next Nothing)
  branches nothing distance true = jumps nothing (pos (state.place + 1) +ℤ distance)
  branches nothing distance false = continues_with Property code next Nothing nothing

  stores : ((from : ℤ) (size : StoreSize) (value : Value) → IfPasses Property (store_at from size value))
      → (size : StoreSize) (base : ℕ) (offset : ℤ) (source : Source)
      → IfPasses (ContinuesWith Property) (store_change state size base offset source >>= continue_with code next)
  stores satisfied size base offset source =
      then_keeps Property (ContinuesWith Property) _ _
      (then_passes Property (pointer_in state base) _ (λ pointer. then_passes Property (frame_offset pointer.area (pointer.offset +ℤ offset)) _
      (λ from. then_passes Property (operand state source) _ (λ value. satisfied from size value)))) (continues_with Property code next)

  sets : ((register : WritableRegister) (value : Value) → Property (SetRegister register value))
      → (checks : Result Value Cause) (register : WritableRegister)
      → IfPasses (ContinuesWith Property) (checks >>= set_register code next register)
  sets satisfied checks register = then_passes (ContinuesWith Property) checks _
      (λ value. continues_with Property code next (SetRegister register value) (satisfied register value))

  pub effect_satisfies : (insn : Insn) → ChangesSatisfy state insn Property
      → IfPasses (ContinuesWith Property) (instruction_effect code segment state next insn)
  effect_satisfies (Alu operation width destination source) are = sets are.set _ destination
  effect_satisfies (MoveSignExtended extension destination source) are =
      then_passes (ContinuesWith Property) _ _ (λ x. continues_with Property code next _ (are.set destination _))
  effect_satisfies (Negate width destination) are = then_passes (ContinuesWith Property) _ _
      (λ x. continues_with Property code next _ (are.set destination _))
  effect_satisfies (ByteSwap order width destination) are = then_passes (ContinuesWith Property) _ _
      (λ x. continues_with Property code next _ (are.set destination _))
  effect_satisfies (JumpIf condition width left right distance) are =
      then_passes (ContinuesWith Property) (read state left.number) _
      (λ x. then_passes (ContinuesWith Property) (compared_operand (value_registers state) width right) _
      (λ y. then_passes (ContinuesWith Property) (compare condition width x y) _ (branches are.nothing distance)))
  effect_satisfies (Jump distance) are = jumps are.nothing _
  effect_satisfies (Call immediate) are = then_keeps Property (ContinuesWith Property) _ _ (are.call immediate refl) (continues_with Property code next)
  effect_satisfies Exit are = then_passes {A = ℕ} (ContinuesWith Property) (read state 0 >>= number_or ExitNotNumber) (λ answer. Ok (End answer))
      (λ answer. tt)
  effect_satisfies (Load format destination base offset) are = sets are.set _ destination
  effect_satisfies (StoreImmediate size base offset immediate) are =
      stores (stores_satisfy state _ Property are) size base.number offset (Immediate immediate)
  effect_satisfies (Store size base offset source) are = stores (stores_satisfy state _ Property are) size base.number offset (Register source)
  effect_satisfies (WideLoad destination immediate next_immediate) are = continues_with Property code next _ (are.set destination _)
