use Rattle.listing_notes.specs.Notation.{slot_marks}
use Rattle.listing_notes.proofs.TextLemmas.{marks-decide}
use Rattle.listing_notes.proofs.facts.are_same_marks.Goals as goal

pub returns : goal.returns
returns c =
    marks-decide c.slot_marks.result c.slot_marks-2.result (slot_marks c.args.frame.now.marks c.args.slot) (slot_marks c.args.other.now.marks c.args.slot)
    c.eq.result c.slot_marks.ensures c.slot_marks-2.ensures c.eq.ensures
