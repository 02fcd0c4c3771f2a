-- What is known of a program's frame, whatever the segment: which of its bytes are written, and the kind in each of its slots. Such marks and kinds
-- are this project's own: RFC 9669 has none.
use Rattle.std.specs.Prelude.{◌≡◌, ℕ, ◌+◌, ◌-◌, ◌*◌, ◌/◌, ◌≤◌, Bool, true, false, ◌&&◌, List, [], ◌∷◌, ◌++◌, length, take, drop, replicate, get_or, slice_set, IsTrue, slice_index_or}
use Rattle.std.specs.List.{list_all}
use Rattle.bpf_insn.specs.Frame.{FrameContents, is_written, slot_value, clear_slots, overwrite_slots}
use Rattle.bpf_insn.specs.declared.memory.TheConstants.{FRAME_LENGTH, SLOT_LENGTH, SLOTS}
use Rattle.bpf_kinds.specs.Kind as kind
use Rattle.bpf_kinds.specs.declared.kind.Kind.{Kind}
use Rattle.bpf_kinds.specs.declared.kind.Kind.TheVariants.{Number, Record, Frame, Nothing}

-- the contents of a FrameMap: a mark for each byte of the frame, in order, which is true if the byte is known to be written, and the kind in each
-- slot
pub record Contents : Type 0 where
  pub marks : List Bool
  pub kinds : List Kind

-- the byte at an offset is marked; no byte outside the frame is
abbrev pub IsMarked : List Bool → ℕ → Type 0
IsMarked marks at = IsTrue (slice_index_or marks at false)

-- the kind in a slot; nothing is known outside the frame
abbrev pub slot_kind : Contents → ℕ → Kind
slot_kind map slot = get_or map.kinds slot Nothing

-- a mark fits the kind of its byte's slot: the bytes of a number are written, and those of a pointer aren't
abbrev pub FitsKind : Kind → Bool → Type 0
FitsKind (Number x) mark = IsTrue mark
FitsKind (Record x) mark = mark ≡ false
FitsKind (Frame x) mark = mark ≡ false
FitsKind Nothing mark = Unit {0}

-- there is one mark for each byte and one proper kind for each slot, and they fit
pub record IsProper (map : Contents) : Type 0 where
  pub count : length map.marks ≡ FRAME_LENGTH
  pub slots : length map.kinds ≡ SLOTS
  pub kinds : (slot : ℕ) → kind.IsProper (slot_kind map slot)
  pub fit : (at : ℕ) → FitsKind (slot_kind map (at / SLOT_LENGTH)) (slice_index_or map.marks at false)

-- each byte between two offsets, both included, is marked
abbrev pub AllWritten : List Bool → ℕ → ℕ → Type 0
AllWritten marks from to = (at : ℕ) → from ≤ at → at ≤ to → IsMarked marks at

-- whether each of them is marked
abbrev pub all_written : List Bool → ℕ → ℕ → Bool
all_written marks from to = list_all (λ mark. mark) (take (to + 1 - from) (drop from marks))

-- the marks with those of `len` bytes from an offset on set or removed
abbrev pub with_marks : Bool → List Bool → ℕ → ℕ → List Bool
with_marks mark marks from len = take from marks ++ replicate len mark ++ drop (from + len) marks

-- the map after the bytes between two offsets, both included, may have been written: nothing is known of their slots
abbrev pub touch : Contents → ℕ → ℕ → Contents
touch map from to = record map { kinds = clear_slots Nothing map.kinds from to }

-- the map after `len` bytes from an offset on were written
abbrev pub mark : Contents → ℕ → ℕ → Contents
mark map from len = record { marks = with_marks true map.marks from len; kinds = overwrite_slots Nothing map.kinds from len }

-- the marks with those of a slot's bytes changed to fit its kind
abbrev pub fit_marks : Kind → List Bool → ℕ → List Bool
fit_marks (Number x) marks slot = with_marks true marks (SLOT_LENGTH * slot) SLOT_LENGTH
fit_marks (Record x) marks slot = with_marks false marks (SLOT_LENGTH * slot) SLOT_LENGTH
fit_marks (Frame x) marks slot = with_marks false marks (SLOT_LENGTH * slot) SLOT_LENGTH
fit_marks Nothing marks slot = marks

-- the map after a slot is set to a kind
abbrev pub set_slot : Contents → ℕ → Kind → Contents
set_slot map slot kind = record { marks = fit_marks kind map.marks slot; kinds = slice_set map.kinds slot kind }

-- the map of a frame of which nothing is known
abbrev pub unwritten : Contents
unwritten = record { marks = replicate FRAME_LENGTH false; kinds = replicate SLOTS Nothing }

-- the frames that are possible: marked bytes are written, and each slot holds a value of its kind
pub record Admits (map : Contents) (frame : FrameContents) : Type 0 where
  pub written : (at : ℕ) → IsMarked map.marks at → IsTrue (is_written frame.bytes at)
  pub slots : (slot : ℕ) → kind.Admits (slot_kind map slot) (slot_value frame slot)

-- a map lies within another if it has the other's marks, and each of its kinds lies within the other's: more marks admit fewer frames
pub record IsWithin (map other : Contents) : Type 0 where
  pub marks : (at : ℕ) → IsMarked other.marks at → IsMarked map.marks at
  pub kinds : (slot : ℕ) → kind.IsWithin (slot_kind map slot) (slot_kind other slot)

-- the marks in both lists, byte by byte
abbrev pub join_marks : List Bool → List Bool → List Bool
join_marks (mark ∷ marks) (other ∷ others) = (mark && other) ∷ join_marks marks others
join_marks marks others = []

-- the least map that contains two others: it keeps the marks that both have, and joins kind by kind
abbrev pub join : Contents → Contents → Contents
join map other = record { marks = join_marks map.marks other.marks; kinds = kind.join_kinds map.kinds other.kinds }
