-- The contents of a frame, and writes to it. Loads and stores (RFC 9669, sections 5.1 and 5.2) are little-endian here.
use Rattle.std.specs.Prelude.{ℕ, ◌+◌, ◌*◌, Bool, true, false, List, [], ◌∷◌, ◌++◌, length, map, take, drop, replicate, slice_set, Some, None}
use Rattle.std.specs.List.{list_all}
use Rattle.std.specs.Int.{bytes_low_first}
use Rattle.bpf_helpers.specs.Call.{write}
use Rattle.bpf_insn.specs.Frame.{FrameByte, Unwritten, Byte, FrameContents, is_byte, overwrite_slots}
use Rattle.bpf_insn.specs.declared.memory.TheConstants.{SLOT_LENGTH}
use Rattle.bpf_insn.specs.declared.value.Pointer.{Pointer as PointerParts}

-- the bytes of a frame: those with a mark are written
abbrev pub frame_bytes : List Bool → List ℕ → List FrameByte
frame_bytes [] bytes = []
frame_bytes (mark ∷ marks) [] = []
frame_bytes (true ∷ marks) (byte ∷ bytes) = Byte byte ∷ frame_bytes marks bytes
frame_bytes (false ∷ marks) (byte ∷ bytes) = Unwritten ∷ frame_bytes marks bytes

-- all of the bytes are written
abbrev pub all_written : List FrameByte → Bool
all_written memory = list_all is_byte memory

-- the written bytes, in order
abbrev pub written_bytes : List FrameByte → List ℕ
written_bytes [] = []
written_bytes (Unwritten ∷ memory) = written_bytes memory
written_bytes (Byte byte ∷ memory) = byte ∷ written_bytes memory

-- the memory with the low `count` bytes of a number written from an offset on, lowest first
abbrev pub store : List FrameByte → ℕ → ℕ → ℕ → List FrameByte
store memory at count number = take at memory ++ map Byte (bytes_low_first 0 count number) ++ drop (at + count) memory

-- the frame with the low `count` bytes of a number written from an offset on; a slot with one of these bytes no longer holds a pointer
abbrev pub store_number : FrameContents → ℕ → ℕ → ℕ → FrameContents
store_number frame at count number = record {
  bytes = store frame.bytes at count number;
  slots = overwrite_slots None frame.slots at count;
}

-- the frame with bytes written from an offset on
abbrev pub write_bytes : FrameContents → ℕ → List ℕ → FrameContents
write_bytes frame at bytes = record {
  bytes = write frame.bytes at (map Byte bytes);
  slots = overwrite_slots None frame.slots at (length bytes);
}

-- the frame with a pointer stored in a slot, which takes all of the slot's bytes
abbrev pub set_slot_pointer : FrameContents → ℕ → PointerParts → FrameContents
set_slot_pointer frame slot pointer = record {
  bytes = write frame.bytes (SLOT_LENGTH * slot) (replicate SLOT_LENGTH Unwritten);
  slots = slice_set frame.slots slot (Some pointer);
}
