use Rattle.std.proofs.Common.{Ok, take}
use Rattle.std.specs.List.{flat_map}
use Rattle.counted_io.specs.Writing.{WritesText}
use Rattle.reports.specs.Piece.{reported}
use Rattle.reports.proofs.piece.write_report.Given as goal

-- the pieces so far are written
abbrev pub invariant-loop-piece : goal.invariant-loop-piece
invariant-loop-piece g l =
    WritesText (flat_map reported (take l.piece-index l.pieces)) (Ok tt)
    (g.W.CountedWrite.writer l.initial.out) (g.W.CountedWrite.writer l.out)
