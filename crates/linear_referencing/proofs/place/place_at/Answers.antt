use Rattle.std.proofs.Common.{◌+◌, arith}
use Rattle.linear_referencing.proofs.LengthLemmas.{reached-next}
use Rattle.linear_referencing.proofs.PlaceLemmas.{at-distance, first-and-others}
use Rattle.linear_referencing.proofs.place.place_at.Goals as goal

pub returns-then-left-piece : goal.returns-then-left-piece
returns-then-left-piece c =
    at-distance _ _ _ _ _ _ _ (first-and-others c.args.points.now _ c.in-len1-up.len_at_least) (record {
      inside = c.loop-to-test.true;
      from = _;
      start = _;
      is_reached = c.loop-to.invariant.0.1;
      piece = _;
      of_piece = c.piece_length-piece.ensures.value;
      rest = _;
      within = c.if-left-piece.true;
      is_distance = c.loop-to.invariant.0.2;
      is_place = c.place_between.ensures;
    })

pub loop-to-preserved : goal.loop-to-preserved
loop-to-preserved c = (
  (
    c.loop-to.invariant.0.0 + c.piece_length-piece.result,
    reached-next _ _ _ _ _ _ _ c.loop-to-test.true c.loop-to.invariant.0.1 c.piece_length-piece.ensures.value,
    omega (arith, c.loop-to.invariant.0.2, c.if-left-piece.false),
  ),
  λ some. omega (arith, c.if-left-piece.false),
)
