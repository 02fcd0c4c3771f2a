use Rattle.std.proofs.Common.{◌∙◌}
use Rattle.geocode.specs.HitLine.{line}
use Rattle.reports.proofs.PieceLemmas.{piece_stopped, piece_written}
use Rattle.commands.proofs.geocoder.write_lines.Goals as goal

pub loop-hit-preserved : goal.loop-hit-preserved
loop-hit-preserved g c =
    piece_written line c.args.hits.now c.loop-hit.hit-index _ c.loop-hit-test.true _ _ _ _
    (c.as_bytes.ensures.value ∙ c.deref.ensures.0 ∙ c.line-line.ensures) c.loop-hit.invariant c.in-Ok.ensures

pub returns-in-Err : goal.returns-in-Err
returns-in-Err g c = let wrote = c.in-Err.ensures in (
  wrote.0,
  wrote.1,
  piece_stopped line c.args.hits.now c.loop-hit.hit-index _ c.loop-hit-test.true _ _ _ _ _
      (c.as_bytes.ensures.value ∙ c.deref.ensures.0 ∙ c.line-line.ensures) c.loop-hit.invariant wrote.2,
)
