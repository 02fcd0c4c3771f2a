-- The frame, a program's own memory: bytes, some of them unwritten, and slots of eight bytes each, which may hold a pointer. Slots are this
-- project's own: RFC 9669 has none.
use Rattle.std.specs.Prelude.{◌≢◌, ℕ, ◌+◌, ◌-◌, ◌*◌, ◌/◌, ◌%◌, ◌^◌, ◌<◌, ◌≤◌, ◌==◌, ◌&&◌, zero, suc, Bool, true, false, List, [], ◌∷◌, ◌++◌, take, drop, replicate, get_or, Option, Some, None, if◌then◌else◌}
use Rattle.std.specs.Option.{option_map}
use Rattle.bpf_insn.specs.declared.memory.TheConstants.{SLOT_LENGTH}
use Rattle.bpf_insn.specs.declared.value.Pointer.{Pointer as PointerParts}
use Rattle.bpf_insn.specs.declared.value.Value.{Value}
use Rattle.bpf_insn.specs.declared.value.Value.TheVariants.{Empty, Number, Pointer}

-- a byte of memory
pub data FrameByte : Type 0 where
  Unwritten : FrameByte
  Byte : (byte : ℕ) → FrameByte

-- a written byte has eight bits
abbrev pub IsByte : FrameByte → Type 0
IsByte Unwritten = Unit {0}
IsByte (Byte byte) = byte < 2 ^ 8

-- the contents of a frame: its bytes, and the pointers in its slots. A pointer has no bytes: those of its slot are unwritten.
pub record FrameContents : Type 0 where
  pub bytes : List FrameByte
  pub slots : List (Option PointerParts)

-- a byte is written
abbrev pub is_byte : FrameByte → Bool
is_byte Unwritten = false
is_byte (Byte byte) = true

-- the byte at an offset is written; outside memory, none is
abbrev pub is_written : List FrameByte → ℕ → Bool
is_written memory at = is_byte (get_or memory at Unwritten)

-- the little-endian number in bytes; there is none if one of them is unwritten
abbrev pub number_of : List FrameByte → Option ℕ
number_of [] = Some 0
number_of (Unwritten ∷ bytes) = None
number_of (Byte byte ∷ bytes) = option_map (λ rest. byte + 256 * rest) (number_of bytes)

-- the slot that `count` bytes from an offset on make up, if they are a whole slot
abbrev pub slot_at : ℕ → ℕ → Option ℕ
slot_at at count = if (count == SLOT_LENGTH) && (at % SLOT_LENGTH == 0) then Some (at / SLOT_LENGTH) else None

-- the bytes of a slot
abbrev pub slot_bytes : {A : Type 0} → List A → ℕ → List A
slot_bytes bytes slot = take SLOT_LENGTH (drop (SLOT_LENGTH * slot) bytes)

-- the pointer in a slot, if it holds one
abbrev pub slot_pointer : FrameContents → ℕ → Option PointerParts
slot_pointer frame slot = get_or frame.slots slot None

-- the contents of a slot: the number in its bytes if all of them are written, or else its pointer, if there is one
abbrev pub value_of : Option ℕ → Option PointerParts → Value
value_of (Some number) pointer = Number number
value_of None (Some pointer) = Pointer pointer
value_of None None = Empty

abbrev pub slot_value : FrameContents → ℕ → Value
slot_value frame slot = value_of (number_of (slot_bytes frame.bytes slot)) (slot_pointer frame slot)

-- none of `count` bytes from an offset on lies in a slot
abbrev pub IsApart : ℕ → ℕ → ℕ → Type 0
IsApart slot from count = (at : ℕ) → from ≤ at → at < from + count → at / SLOT_LENGTH ≢ slot

-- the contents of slots after clearing those with a byte between two offsets, both included
abbrev pub clear_slots : {A : Type 0} → A → List A → ℕ → ℕ → List A
clear_slots nothing slots from to =
    take (from / SLOT_LENGTH) slots ++ replicate (to / SLOT_LENGTH + 1 - from / SLOT_LENGTH) nothing ++ drop (to / SLOT_LENGTH + 1) slots

-- the same for `count` bytes from an offset on
abbrev pub overwrite_slots : {A : Type 0} → A → List A → ℕ → ℕ → List A
overwrite_slots nothing slots at zero = slots
overwrite_slots nothing slots at (suc more) = clear_slots nothing slots at (at + more)
