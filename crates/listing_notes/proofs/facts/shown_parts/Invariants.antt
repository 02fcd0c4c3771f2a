use Rattle.std.proofs.Common.{◌≡◌}
use Rattle.std.specs.Prelude.{filter}
use Rattle.std.specs.List.{All}
use Rattle.listing_notes.specs.Facts.{is_shown}
use Rattle.listing_notes.specs.Notation.{IsPart}
use Rattle.listing_notes.specs.Reads.{parts_from}
use Rattle.listing_notes.proofs.facts.shown_parts.Given as goal

-- the parts so far
abbrev pub invariant-loop-place : goal.invariant-loop-place
invariant-loop-place g l = record {
  value : l.parts.items ≡ filter (is_shown l.last l.known l.insn) (parts_from 0 l.place);
  are : All IsPart l.parts.items;
}
