use Rattle.std.proofs.Common.{◌≡◌, ◌≤◌, ◌+◌, length, map}
use Rattle.std.specs.Str.Lines.{lines}
use Rattle.listing_lines.specs.SourceLines.{line_of, lines_from, lines_in, preceded}
use Rattle.listing_lines.proofs.source_lines.SourceLines.read.Given as goal

-- the lines so far, then the remaining ones
abbrev pub invariant-loop-rest : goal.invariant-loop-rest
invariant-loop-rest g l = record {
  read : lines_in l.fn.self.file.now ≡ preceded (map line_of l.lines.items) (lines_from (l.number + 1) l.last (lines l.rest));
  few : l.number + length l.rest ≤ length l.fn.self.file.now;
}

abbrev pub decreases-loop-rest : goal.decreases-loop-rest
decreases-loop-rest g l = length l.rest
