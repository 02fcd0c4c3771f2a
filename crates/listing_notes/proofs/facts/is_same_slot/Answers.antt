use Rattle.std.proofs.Common.{◌≡◌, ◌∙◌, Decides}
use Rattle.bpf_frame.specs.FrameMap.{slot_kind}
use Rattle.listing_notes.proofs.TextLemmas.{both-decide, decides-same, slot-texts-same}
use Rattle.listing_notes.proofs.facts.is_same_slot.Goals as goal

pub returns : goal.returns
returns c =
    let decides : Decides c.is_same_kind-kinds.result (slot_kind c.args.frame.now c.args.slot ≡ slot_kind c.args.other.now c.args.slot) =
    decides-same c.is_same_kind-kinds.result c.slot.result c.slot-2.result _ _ c.slot.ensures.value c.slot-2.ensures.value
    c.is_same_kind-kinds.ensures.value in
    c.both.ensures ∙ both-decide c.is_same_kind-kinds.result c.are_same_marks-marks.result _ decides c.are_same_marks-marks.ensures
    (slot-texts-same c.args.frame.now c.args.other.now c.args.slot c.requires.frame c.requires.other)
