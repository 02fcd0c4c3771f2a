use Rattle.std.proofs.Common.{◌≡◌, ◌++◌, map, take}
use Rattle.std.specs.String.{string_bytes}
use Rattle.listing_notes.specs.Notation.{mark_code}
use Rattle.listing_notes.proofs.notation.push_marks.Given as goal

-- the marks so far
abbrev pub invariant-loop-mark : goal.invariant-loop-mark
invariant-loop-mark g l = string_bytes l.text ≡ string_bytes l.initial.text ++ map mark_code (take l.mark-index l.marks)
