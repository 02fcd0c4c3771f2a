use Rattle.std.proofs.Common.{Ok, take}
use Rattle.geocode.specs.HitLine.{hit_lines}
use Rattle.counted_io.specs.Writing.{WritesText}
use Rattle.commands.proofs.geocoder.write_lines.Given as goal

-- the lines of the hits so far are written
abbrev pub invariant-loop-hit : goal.invariant-loop-hit
invariant-loop-hit g l =
    WritesText (hit_lines (take l.hit-index l.hits)) (Ok tt)
    (g.W.CountedWrite.writer l.initial.out) (g.W.CountedWrite.writer l.out)
