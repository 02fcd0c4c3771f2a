-- Records: lines that are good for their record type (TIGER/Line 2006, record types 1, 2, 4, 5 and 6), and the flaws of lines that aren't.
use Rattle.std.specs.Prelude.{◌≡◌, ℕ, ◌^◌, ◌<◌, ◌==◌, if◌then◌else◌, List, length, slice_index, Option, Some, None, is_some}
use Rattle.tl_fields.specs.Number.{number_of}
use Rattle.tl_records.specs.Layout.{field_at}
use Rattle.tl_records.specs.Lines.{LineParts}
use Rattle.tl_records.specs.declared.fault.LineFault.{LineFault}
use Rattle.tl_records.specs.declared.fault.LineFaultKind.{LineFaultKind}
use Rattle.tl_records.specs.declared.fault.LineFaultKind.TheVariants.{BadSequence, WrongLength, WrongType}
use Rattle.tl_records.specs.declared.layout.Layout.{Layout}
use Rattle.tl_records.specs.declared.layout.Places.{Places}

-- the flaw of a line whose sequence number must be in this field, if it has none
abbrev pub sequence_fault : Option Places → List ℕ → Option LineFaultKind
sequence_fault None line = None
sequence_fault (Some places) line = if is_some (number_of (field_at places line)) then None else Some BadSequence

-- the first flaw of a line of this record type, if any: it has the wrong length, its first byte isn't the tag, or a field that must have a number has
-- none
abbrev pub line_fault_kind : Layout → List ℕ → Option LineFaultKind
line_fault_kind layout line =
    if length line == layout.length
    then (if slice_index line 0 == layout.tag
    then (if is_some (number_of (field_at layout.number line)) then sequence_fault layout.sequence line else Some layout.without_number)
    else Some WrongType)
    else Some WrongLength

-- a record of this type: bytes without a flaw
pub record IsValidLine (layout : Layout) (line : List ℕ) : Type 0 where
  pub no_fault : line_fault_kind layout line ≡ None
  pub are_bytes : (i : ℕ) → slice_index line i < 2 ^ 8

-- this is the fault of a flawed line, with the line's number
abbrev pub IsLineFault : Layout → LineParts → LineFault → Type 0
IsLineFault layout line fault = (fault.line ≡ line.number) × (line_fault_kind layout line.bytes ≡ Some fault.flaw)

-- the contents of a record: the bytes of its line, without the terminator
pub record RecordParts : Type 0 where
  pub bytes : List ℕ

-- a record of this type, whose required number is this one
pub record IsRecord (layout : Layout) (line : List ℕ) (number : ℕ) : Type 0 where
  pub good : IsValidLine layout line
  pub len : length line ≡ layout.length
  pub numbered : number_of (field_at layout.number line) ≡ Some number
