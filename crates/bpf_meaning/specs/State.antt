-- States of a running program. Registers are numbered 0 to 10 (RFC 9669, section 3.1) and hold 64 bits, or a pointer. The state at the start is
-- this project's own choice.
use Rattle.std.specs.Prelude.{◌≡◌, ℕ, ◌/◌, pos, IsTrue, [], ◌∷◌, length, replicate, get_or, None}
use Rattle.bpf_insn.specs.declared.value.Area.TheVariants as area
use Rattle.bpf_insn.specs.declared.value.Value.{Value}
use Rattle.bpf_insn.specs.declared.value.Value.TheVariants as value
use Rattle.bpf_insn.specs.Frame.{IsByte, Unwritten, is_written, slot_pointer}
use Rattle.bpf_insn.specs.declared.memory.TheConstants.{FRAME_LENGTH, SLOT_LENGTH, SLOTS}
use Rattle.bpf_meaning.specs.declared.state.State.{State}
use Rattle.bpf_meaning.specs.declared.state.TheConstants.{REGISTERS}

-- at the start: register 1 points to the record's first byte, register 10 past the end of the frame, and nothing else is written
abbrev pub start : State
start = record {
  place = 0;
  registers = value.Empty ∷ value.Pointer (record { area = area.Record; offset = pos 0 }) ∷ value.Empty ∷ value.Empty ∷ value.Empty ∷ value.Empty
      ∷ value.Empty ∷ value.Empty ∷ value.Empty ∷ value.Empty ∷ value.Pointer (record { area = area.Frame; offset = pos FRAME_LENGTH }) ∷ [];
  frame = record { bytes = replicate FRAME_LENGTH Unwritten; slots = replicate SLOTS None };
  score = 0;
}

-- eleven registers and a whole frame, as every State in the code has: a premise of laws about states, whose parts are only lists here
pub record IsWellFormed (state : State) : Type 0 where
  pub registers : length state.registers ≡ REGISTERS
  pub frame : length state.frame.bytes ≡ FRAME_LENGTH
  pub slots : length state.frame.slots ≡ SLOTS

-- the frame's bytes are bytes, as in every State in the code
pub record HoldsBytes (state : State) : Type 0 where
  pub frame : (at : ℕ) → IsByte (get_or state.frame.bytes at Unwritten)

-- a written byte lies in a slot that holds no pointer
pub record SeparatesPointers (state : State) : Type 0 where
  pub written : (at : ℕ) → IsTrue (is_written state.frame.bytes at) → slot_pointer state.frame (at / SLOT_LENGTH) ≡ None

-- the value in a register
abbrev pub register_value : State → ℕ → Value
register_value state number = get_or state.registers number value.Empty
