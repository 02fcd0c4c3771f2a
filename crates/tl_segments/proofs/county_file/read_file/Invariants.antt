use Rattle.std.proofs.Common.{◌-◌, ◌^◌}
use Rattle.tl_segments.proofs.ReadingLemmas.{HoldsSoFar}
use Rattle.tl_segments.proofs.county_file.read_file.Given as goal

abbrev pub invariant-loop-table : goal.invariant-loop-table
invariant-loop-table g l =
    HoldsSoFar g.T.Lines.FileType.FILE (g.T.Table.holds l.table) l.line
    (g.R.CountedRead.reader l.initial.input)
    (g.R.CountedRead.reader l.input)

abbrev pub decreases-loop-table : goal.decreases-loop-table
decreases-loop-table g l = 2 ^ 32 - l.line.number
