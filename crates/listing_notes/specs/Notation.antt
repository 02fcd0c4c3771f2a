-- The notation for what is known in a state: a text for each register and each slot of the frame.
use Rattle.std.specs.Prelude.{ℕ, ◌+◌, ◌-◌, ◌*◌, ◌^◌, ◌<◌, ◌≤◌, ◌==◌, ◌&&◌, nat_le, Bool, true, false, if◌then◌else◌, List, ◌++◌, map, codes, decimal}
use Rattle.std.specs.Prelude.{slice_index_or}
use Rattle.std.specs.Fmt.{signed_decimal}
use Rattle.std.specs.List.{range_with_len}
use Rattle.std.specs.Ordering.{int_eq}
use Rattle.bpf_frame.specs.FrameMap.{Contents, slot_kind}
use Rattle.bpf_insn.specs.declared.memory.TheConstants.{FRAME_LENGTH, SLOTS, SLOT_LENGTH}
use Rattle.bpf_kinds.specs.Interval.{is_single}
use Rattle.bpf_kinds.specs.declared.interval.Interval.{Interval}
use Rattle.bpf_kinds.specs.declared.kind.Kind.{Kind}
use Rattle.bpf_kinds.specs.declared.kind.Kind.TheVariants.{Number, Record, Frame, Nothing}
use Rattle.bpf_kinds.specs.declared.offsets.Offsets.{Offsets}
use Rattle.bpf_verify.specs.LiftedState.{kind_of}
use Rattle.bpf_verify.specs.declared.abstract_state.AbstractState.{AbstractState}
use Rattle.listing_notes.specs.declared.notation.Part.{Part}
use Rattle.listing_notes.specs.declared.notation.Part.TheVariants.{Register, Slot}

-- one end, or both separated by two points
abbrev pub range_text : Bool → List ℕ → List ℕ → List ℕ
range_text true low high = low
range_text false low high = low ++ codes ".." ++ high

-- an interval whose low end is negative in two's complement
abbrev pub begins_negative : Interval → Bool
begins_negative x = nat_le (2 ^ 63) x.low

-- the interval of all 64-bit numbers
abbrev pub is_any : Interval → Bool
is_any x = x.low == 0 && x.high == 2 ^ 64 - 1

-- an end of an interval, as an unsigned number or as a negative number in two's complement
abbrev pub end_text : Bool → ℕ → List ℕ
end_text false number = decimal number
end_text true number = codes "-" ++ decimal (2 ^ 64 - number)

abbrev pub interval_text : Interval → List ℕ
interval_text x =
    if is_any x
    then codes "any number"
    else range_text (is_single x) (end_text (begins_negative x) x.low) (end_text (begins_negative x) x.high)

-- a pointer's offsets
abbrev pub offsets_text : Offsets → List ℕ
offsets_text x = range_text (int_eq x.low x.high) (signed_decimal x.low) (signed_decimal x.high)

abbrev pub kind_text : Kind → List ℕ
kind_text (Number x) = interval_text x
kind_text (Record x) = codes "record + " ++ offsets_text x
kind_text (Frame x) = codes "frame + " ++ offsets_text x
kind_text Nothing = codes "?"

-- `m` for a byte that is known to be written, otherwise `?`
abbrev pub mark_code : Bool → ℕ
mark_code true = 109
mark_code false = 63

-- the marks of a slot's bytes, in order of their addresses
abbrev pub slot_marks : List Bool → ℕ → List Bool
slot_marks marks slot = map (λ byte. slice_index_or marks (SLOT_LENGTH * slot + byte) false) (range_with_len 0 SLOT_LENGTH)

abbrev pub marks_text : List Bool → List ℕ
marks_text marks = map mark_code marks

-- a slot as the kind of what it holds, or else as the marks of its bytes
abbrev pub held_text : Kind → List Bool → List ℕ
held_text (Number x) marks = kind_text (Number x)
held_text (Record x) marks = kind_text (Record x)
held_text (Frame x) marks = kind_text (Frame x)
held_text Nothing marks = marks_text marks

abbrev pub slot_text : Contents → ℕ → List ℕ
slot_text frame slot = held_text (slot_kind frame slot) (slot_marks frame.marks slot)

-- a register or a slot that exists
abbrev pub IsPart : Part → Type 0
IsPart (Register register) = register ≤ 10
IsPart (Slot slot) = slot < SLOTS

-- the name of a register, or of a slot by its distance below register 10
abbrev pub part_name : Part → List ℕ
part_name (Register register) = codes "r" ++ decimal register
part_name (Slot slot) = codes "[r10-" ++ decimal (FRAME_LENGTH - SLOT_LENGTH * slot) ++ codes "]"

-- what is known about a part
abbrev pub part_text : AbstractState → Part → List ℕ
part_text known (Register register) = kind_text (kind_of known register)
part_text known (Slot slot) = slot_text known.frame slot

abbrev pub fact_text : AbstractState → Part → List ℕ
fact_text known part = part_name part ++ codes " = " ++ part_text known part
