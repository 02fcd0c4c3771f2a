use Rattle.std.proofs.Common.{◌≡◌, ◌≤◌, ◌+◌, length, List}
use Rattle.std.specs.Str.Lines.{lines}
use Rattle.listing_lines.specs.SourceLines.{SourceLine, lines_from, lines_in, preceded}
use Rattle.listing_lines.proofs.source_lines.SourceLines.of.Given as goal

-- the lines so far, then the remaining ones
abbrev pub invariant-loop-rest : goal.invariant-loop-rest
invariant-loop-rest l = record {
  before : List SourceLine;
  read : lines_in l.fn.file ≡ preceded before (lines_from (l.number + 1) l.last (lines l.rest));
  few : l.number + length l.rest ≤ length l.fn.file;
}

abbrev pub decreases-loop-rest : goal.decreases-loop-rest
decreases-loop-rest l = length l.rest
