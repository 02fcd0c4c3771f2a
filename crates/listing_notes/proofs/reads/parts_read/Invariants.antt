use Rattle.std.proofs.Common.{◌≡◌}
use Rattle.std.specs.Prelude.{filter}
use Rattle.std.specs.List.{All}
use Rattle.listing_notes.specs.Notation.{IsPart}
use Rattle.listing_notes.specs.Reads.{parts_from, reads}
use Rattle.listing_notes.proofs.reads.parts_read.Given as goal

-- the parts so far
abbrev pub invariant-loop-index : goal.invariant-loop-index
invariant-loop-index g l = record {
  value : l.parts.items ≡ filter (reads l.known l.insn) (parts_from l.first l.index);
  are : All IsPart l.parts.items;
}
