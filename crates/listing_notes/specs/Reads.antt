-- The parts of a state that an instruction reads.
use Rattle.std.specs.Prelude.{◌≡◌, ◌≤ℤ◌, ℕ, ◌+◌, ◌-◌, ◌*◌, ◌/◌, ℤ, pos, ◌+ℤ◌, ◌-ℤ◌, int_le, nat_lt, Bool, true, false, ◌&&◌, ◌||◌, ◌==◌, if◌then◌else◌, List}
use Rattle.std.specs.Prelude.{◌∷◌, get_or, map, filter, Option, Some, None}
use Rattle.std.specs.Int.{w32, cast_unsigned}
use Rattle.std.specs.List.{range_with_len}
use Rattle.bpf_helpers.specs.Helper.{by_number, signature}
use Rattle.bpf_helpers.specs.Group.{frame_use}
use Rattle.bpf_helpers.specs.declared.helper.Helper.{Helper}
use Rattle.bpf_helpers.specs.declared.signature.Argument.{Argument}
use Rattle.bpf_helpers.specs.declared.signature.Argument.TheVariants as argument
use Rattle.bpf_helpers.specs.declared.signature.FrameUse.{FrameUse}
use Rattle.bpf_helpers.specs.declared.signature.FrameUse.TheVariants as frame_use
use Rattle.bpf_insn.specs.Memory.{load_length}
use Rattle.bpf_insn.specs.Opcode.{reads_named}
use Rattle.bpf_insn.specs.declared.instruction.Insn.{Insn}
use Rattle.bpf_insn.specs.declared.instruction.Insn.TheVariants.{Call, Exit, Load}
use Rattle.bpf_insn.specs.declared.memory.TheConstants.{SLOTS, SLOT_LENGTH}
use Rattle.bpf_kinds.specs.declared.kind.Kind.{Kind}
use Rattle.bpf_kinds.specs.declared.kind.Kind.TheVariants.{Number, Frame}
use Rattle.bpf_kinds.specs.declared.offsets.Offsets.{Offsets}
use Rattle.bpf_meaning.specs.declared.state.TheConstants.{REGISTERS}
use Rattle.bpf_verify.specs.LiftedState.{kind_of}
use Rattle.bpf_verify.specs.declared.abstract_state.AbstractState.{AbstractState}
use Rattle.listing_notes.specs.declared.notation.Part.{Part}
use Rattle.listing_notes.specs.declared.notation.Part.TheVariants.{Register, Slot}
use Rattle.listing_notes.specs.declared.reads.Bytes.{Bytes}

-- an argument that a helper function uses
abbrev pub is_used : Argument → Bool
is_used argument.Unused = false
is_used (argument.Number allowed) = true
is_used argument.Frame = true

-- the registers of the arguments that a call uses, starting at register 1
abbrev pub uses_register : Option Helper → ℕ → Bool
uses_register None register = false
uses_register (Some helper) register = is_used (get_or (argument.Unused ∷ (signature helper).arguments) register argument.Unused)

-- the helper function that a call invokes, by the 32 bits of its immediate
abbrev pub helper_of : ℤ → Option Helper
helper_of immediate = by_number (cast_unsigned w32 immediate)

-- the registers that an instruction reads and that none of its fields names: a call's arguments, and the answer
abbrev pub reads_unnamed : Insn → ℕ → Bool
reads_unnamed (Call immediate) register = uses_register (helper_of immediate) register
reads_unnamed Exit register = register == 0
reads_unnamed insn register = false

-- the registers that an instruction reads
abbrev pub reads_register : Insn → ℕ → Bool
reads_register insn register = reads_named insn register || reads_unnamed insn register

-- `count` bytes from each of the offsets, plus another offset: from the first byte at the least one to the last byte at the greatest
abbrev pub bytes_from : Offsets → ℤ → ℕ → Bytes
bytes_from x offset count = record { first = x.low +ℤ offset; last = ((x.high +ℤ offset) +ℤ pos count) -ℤ pos 1 }

-- the bytes of the frame that a load from a base may read
abbrev pub loaded_bytes : Kind → ℤ → ℕ → Option Bytes
loaded_bytes (Frame x) offset count = Some (bytes_from x offset count)
loaded_bytes kind offset count = None

-- the bytes of the frame that a call may read or write: its second argument points to the first, and its third is their number
abbrev pub lent_bytes : Kind → Kind → Option Bytes
lent_bytes (Frame x) (Number count) = Some (bytes_from x (pos 0) count.high)
lent_bytes second third = None

-- those bytes, if the call reads them
abbrev pub read_if : FrameUse → AbstractState → Option Bytes
read_if frame_use.Nothing known = None
read_if frame_use.Writes known = None
read_if frame_use.Reads known = lent_bytes (kind_of known 2) (kind_of known 3)

abbrev pub called_bytes : Option Helper → AbstractState → Option Bytes
called_bytes None known = None
called_bytes (Some helper) known = read_if (frame_use (signature helper).group) known

-- the bytes of the frame that an instruction may read
abbrev pub read_bytes : AbstractState → Insn → Option Bytes
read_bytes known (Load format destination base offset) = loaded_bytes (kind_of known base.number) offset (load_length format)
read_bytes known (Call immediate) = called_bytes (helper_of immediate) known
read_bytes known insn = None

-- one of the bytes is in a slot
abbrev pub has_one_of : Bytes → ℕ → Bool
has_one_of bytes slot =
    int_le bytes.first bytes.last && int_le bytes.first (pos (SLOT_LENGTH * slot + 7)) && int_le (pos (SLOT_LENGTH * slot)) bytes.last

-- one of the bytes is in a slot, stated with a witness
pub record HasOneOf (bytes : Bytes) (slot : ℕ) : Type 0 where
  pub at : ℕ
  pub in_slot : at / SLOT_LENGTH ≡ slot
  pub from_first : bytes.first ≤ℤ pos at
  pub to_last : pos at ≤ℤ bytes.last

abbrev pub has_one_if : Option Bytes → ℕ → Bool
has_one_if None slot = false
has_one_if (Some bytes) slot = has_one_of bytes slot

-- an instruction reads a part of a state
abbrev pub reads : AbstractState → Insn → Part → Bool
reads known insn (Register register) = reads_register insn register
reads known insn (Slot slot) = has_one_if (read_bytes known insn) slot

-- The parts in order: the registers, then the slots from the last of the frame, which is next to register 10, to the first.
abbrev pub part_at : ℕ → Part
part_at place = if nat_lt place REGISTERS then Register place else Slot (REGISTERS + SLOTS - 1 - place)

-- `count` parts from a place on
unfoldable pub parts_from : ℕ → ℕ → List Part
parts_from first count = map part_at (range_with_len first count)

abbrev pub registers : List Part
registers = parts_from 0 REGISTERS

abbrev pub slots : List Part
slots = parts_from REGISTERS SLOTS

abbrev pub registers_read : AbstractState → Insn → List Part
registers_read known insn = filter (reads known insn) registers

abbrev pub slots_read : AbstractState → Insn → List Part
slots_read known insn = filter (reads known insn) slots
