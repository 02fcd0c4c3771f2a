use Rattle.std.proofs.Common.{arith}
use Rattle.linear_referencing.proofs.LengthLemmas.{reached-next}
use Rattle.linear_referencing.proofs.length.line_length.Goals as goal

pub loop-to-preserved : goal.loop-to-preserved
loop-to-preserved c = (
  reached-next _ _ _ _ _ _ _ c.loop-to-test.true c.loop-to.invariant.0 c.piece_length-total.ensures.value,
  omega (arith, c.loop-to.invariant.1, c.piece_length-total.ensures.small),
)
