-- Steps: an effect is applied, and results in the next configuration.
use Rattle.std.specs.Prelude.{◌≡◌, ℕ, List, ◌∷◌, ◌++◌, drop, replicate, slice_set, Result, Ok, Err}
use Rattle.bpf_insn.specs.declared.instruction.Insn.{Insn}
use Rattle.tl_segments.specs.Segment.{SegmentParts}
use Rattle.bpf_insn.specs.Memory.{store_length}
use Rattle.bpf_insn.specs.declared.value.Value.{Value}
use Rattle.bpf_insn.specs.declared.value.Value.TheVariants.{Empty, Number}
use Rattle.bpf_helpers.specs.Call.{Called, bytes_read, call, second}
use Rattle.bpf_helpers.specs.Helper.{signature}
use Rattle.bpf_helpers.specs.Group.{frame_use}
use Rattle.bpf_helpers.specs.declared.helper.Helper.{Helper}
use Rattle.bpf_meaning.specs.Memory.{set_slot_pointer, store_number, write_bytes, written_bytes}
use Rattle.bpf_meaning.specs.Effect.{effect}
use Rattle.bpf_meaning.specs.declared.cause.Cause.{Cause}
use Rattle.bpf_meaning.specs.declared.effect.Change.{Change}
use Rattle.bpf_meaning.specs.declared.effect.Change.TheVariants.{Nothing, SetRegister, StoreBytes, StorePointer, CallHelper}
use Rattle.bpf_meaning.specs.declared.effect.Effect.{Effect}
use Rattle.bpf_meaning.specs.declared.effect.Effect.TheVariants.{Continue, End}
use Rattle.bpf_meaning.specs.declared.outcome.Outcome.{Outcome}
use Rattle.bpf_meaning.specs.declared.outcome.Outcome.TheVariants as outcome
use Rattle.bpf_meaning.specs.declared.state.State.{State}

-- a program that is running, has exited, or is stuck at a place
pub data Configuration : Type 0 where
  Running : (state : State) → Configuration
  Exited : (answer score : ℕ) → Configuration
  Stuck : (place : ℕ) (cause : Cause) → Configuration

-- the registers after a call, which are this project's own choice: register 0 has the answer, registers 1 to 5 hold nothing, and the others are
-- kept
abbrev pub registers_after : ℕ → List Value → List Value
registers_after answer registers = Number answer ∷ replicate 5 Empty ++ drop 6 registers

-- the state after a call whose bytes are written at an offset
abbrev pub state_after : State → ℕ → Called → State
state_after state at called = record state {
  registers = registers_after called.answer state.registers;
  frame = write_bytes state.frame at called.written;
  score = called.score;
}

-- what a call does on the segment, given what it reads of the frame
abbrev pub called : SegmentParts → State → Helper → List ℕ → Called
called segment state helper arguments =
    call helper segment arguments (written_bytes (bytes_read (frame_use (signature helper).group) arguments state.frame.bytes)) state.score

-- the state after a change
abbrev pub carry_out : SegmentParts → State → Change → State
carry_out segment state Nothing = state
carry_out segment state (SetRegister register value) = record state { registers = slice_set state.registers register.number value }
carry_out segment state (StoreBytes at size number) = record state { frame = store_number state.frame at (store_length size) number }
carry_out segment state (StorePointer slot pointer) = record state { frame = set_slot_pointer state.frame slot pointer }
carry_out segment state (CallHelper helper arguments) = state_after state (second arguments) (called segment state helper arguments)

-- the configuration that an effect leads to
abbrev pub apply : SegmentParts → State → Effect → Configuration
apply segment state (Continue change place) = Running (record (carry_out segment state change) { place = place })
apply segment state (End answer) = Exited answer state.score

-- the configuration that a state leads to: by its effect, or stuck because the instruction at its place can't be executed
abbrev pub next_of : SegmentParts → State → Result Effect Cause → Configuration
next_of segment state (Ok effect) = apply segment state effect
next_of segment state (Err cause) = Stuck state.place cause

-- the configuration after a running one
unfoldable pub after : List Insn → SegmentParts → State → Configuration
after code segment state = next_of segment state (effect code segment state)

-- the configuration for an outcome, with the state where it goes on
abbrev pub configuration_of : Outcome → State → Configuration
configuration_of outcome.Running state = Running state
configuration_of (outcome.Exit answer score) state = Exited answer score
configuration_of (outcome.Stuck place cause) state = Stuck place cause

-- a program that has ended leaves its state unchanged
abbrev pub UnchangedAtEnd : Outcome → State → State → Type 0
UnchangedAtEnd outcome.Running old new = Unit {0}
UnchangedAtEnd (outcome.Exit answer score) old new = new ≡ old
UnchangedAtEnd (outcome.Stuck place cause) old new = new ≡ old
