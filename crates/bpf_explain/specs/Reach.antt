-- Accesses to bytes that are outside an area or aren't written.
use Rattle.std.specs.Prelude.{ℕ, ◌-◌, ℤ, Bool, true, false, List, [], ◌++◌, codes, decimal, Option, Some, None}
use Rattle.std.specs.Fmt.{signed_decimal}
use Rattle.bpf_helpers.specs.Helper.{signature}
use Rattle.bpf_helpers.specs.Group.{frame_use}
use Rattle.bpf_helpers.specs.declared.helper.Helper.{Helper}
use Rattle.bpf_helpers.specs.declared.signature.FrameUse.{FrameUse}
use Rattle.bpf_helpers.specs.declared.signature.FrameUse.TheVariants as frame_use
use Rattle.bpf_insn.specs.declared.instruction.Insn.{Insn}
use Rattle.bpf_insn.specs.declared.instruction.Insn.TheVariants.{Call}
use Rattle.bpf_insn.specs.declared.value.Area.{Area}
use Rattle.bpf_insn.specs.declared.value.Area.TheVariants as area
use Rattle.bpf_kinds.specs.declared.kind.Kind.{Kind}
use Rattle.bpf_kinds.specs.declared.kind.Kind.TheVariants.{Record, Frame}
use Rattle.bpf_kinds.specs.declared.offsets.Offsets.{Offsets}
use Rattle.bpf_verify.specs.LiftedState.{kind_of}
use Rattle.bpf_verify.specs.Transfer.{area_length}
use Rattle.bpf_verify.specs.declared.abstract_state.AbstractState.{AbstractState}
use Rattle.listing_notes.specs.Reads.{bytes_from, helper_of, lent_bytes}
use Rattle.bpf_explain.specs.declared.access.Access.{Access}
use Rattle.listing_notes.specs.declared.reads.Bytes.{Bytes}
use Rattle.bpf_explain.specs.Access.{access_facts, access_of, register_fact, text_if}

abbrev pub verb : Bool → List ℕ
verb false = codes "reads"
verb true = codes "writes"

abbrev pub area_name : Area → List ℕ
area_name area.Record = codes "record"
area_name area.Frame = codes "frame"

unfoldable pub ends_text : Bytes → List ℕ
ends_text bytes = signed_decimal bytes.first ++ codes ".." ++ signed_decimal bytes.last

-- the bytes that are read or written, and their area
unfoldable pub bytes_text : Bool → Area → Bytes → List ℕ
bytes_text writes of_area bytes = verb writes ++ codes " bytes " ++ ends_text bytes ++ codes " of the " ++ area_name of_area

-- the last byte of an area
unfoldable pub last_of : Area → ℕ
last_of of_area = area_length of_area - 1

unfoldable pub limit_text : Area → List ℕ
limit_text of_area = codes ", which has 0.." ++ decimal (last_of of_area) ++ codes ": "

-- an access to bytes, some of them outside the area
unfoldable pub outside_text : Bool → Area → Bytes → List ℕ
outside_text writes of_area bytes = bytes_text writes of_area bytes ++ limit_text of_area

-- a read of bytes, some of them not written
unfoldable pub unwritten_text : Bytes → List ℕ
unwritten_text bytes = bytes_text false area.Frame bytes ++ codes ", not all of which are written: "

-- what is known about registers 2 and 3, the pointer and the number of the bytes that a call reads or writes
unfoldable pub lent_facts : AbstractState → List ℕ
lent_facts known = register_fact known 2 ++ codes ", " ++ register_fact known 3

-- a load or a store outside its area
unfoldable pub outside_from : AbstractState → Access → Area → Offsets → List ℕ
outside_from known access of_area x =
    outside_text access.writes of_area (bytes_from x access.offset access.count) ++ access_facts known access

abbrev pub outside_of : AbstractState → Access → Kind → List ℕ
outside_of known access (Record x) = outside_from known access area.Record x
outside_of known access (Frame x) = outside_from known access area.Frame x
outside_of known access kind = []

unfoldable pub access_outside : AbstractState → Access → List ℕ
access_outside known access = outside_of known access (kind_of known access.base.number)

-- a call writes to the frame
abbrev pub is_write : FrameUse → Bool
is_write frame_use.Writes = true
is_write frame_use.Nothing = false
is_write frame_use.Reads = false

unfoldable pub writes_frame : Option Helper → Bool
writes_frame None = false
writes_frame (Some helper) = is_write (frame_use (signature helper).group)

-- a call that reads or writes outside the frame
unfoldable pub lent_outside : AbstractState → Bool → Bytes → List ℕ
lent_outside known writes bytes = outside_text writes area.Frame bytes ++ lent_facts known

unfoldable pub call_outside : AbstractState → ℤ → List ℕ
call_outside known immediate =
    text_if (lent_outside known (writes_frame (helper_of immediate))) (lent_bytes (kind_of known 2) (kind_of known 3))

unfoldable pub outside : AbstractState → Insn → List ℕ
outside known (Call immediate) = call_outside known immediate
outside known insn = text_if (access_outside known) (access_of insn)

-- a load of bytes that aren't written
unfoldable pub unwritten_from : AbstractState → Access → Offsets → List ℕ
unwritten_from known access x = unwritten_text (bytes_from x access.offset access.count) ++ access_facts known access

abbrev pub unwritten_of : AbstractState → Access → Kind → List ℕ
unwritten_of known access (Frame x) = unwritten_from known access x
unwritten_of known access kind = []

unfoldable pub access_unwritten : AbstractState → Access → List ℕ
access_unwritten known access = unwritten_of known access (kind_of known access.base.number)

-- a call that reads bytes that aren't written
unfoldable pub lent_unwritten : AbstractState → Bytes → List ℕ
lent_unwritten known bytes = unwritten_text bytes ++ lent_facts known

unfoldable pub call_unwritten : AbstractState → List ℕ
call_unwritten known = text_if (lent_unwritten known) (lent_bytes (kind_of known 2) (kind_of known 3))

unfoldable pub unwritten : AbstractState → Insn → List ℕ
unwritten known (Call immediate) = call_unwritten known
unwritten known insn = text_if (access_unwritten known) (access_of insn)
