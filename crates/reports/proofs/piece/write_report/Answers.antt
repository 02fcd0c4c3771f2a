use Rattle.std.proofs.Common.{Ok, refl}
use Rattle.reports.specs.Piece.{reported}
use Rattle.reports.proofs.PieceLemmas.{piece_stopped, piece_written, pieces_done}
use Rattle.reports.proofs.piece.write_report.Goals as goal

pub loop-piece-preserved : goal.loop-piece-preserved
loop-piece-preserved g c =
    piece_written reported c.args.pieces.now c.loop-piece.piece-index _ c.loop-piece-test.true _ _ _ _ refl c.loop-piece.invariant c.in-Ok.ensures

pub returns-in-Err : goal.returns-in-Err
returns-in-Err g c =
    piece_stopped reported c.args.pieces.now c.loop-piece.piece-index _ c.loop-piece-test.true _ _ _ _ _ refl c.loop-piece.invariant c.in-Err.ensures

pub returns : goal.returns
returns g c = pieces_done reported c.args.pieces.now c.loop-piece.piece-index (Ok tt) _ _ c.loop-piece-test.false c.loop-piece.invariant
