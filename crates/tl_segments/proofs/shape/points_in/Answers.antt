use Rattle.std.proofs.Common.{[], ◌∷◌, length-append, arith}
use Rattle.std.proofs.lemmas.List.Elements.{All-push}
use Rattle.tl_segments.specs.Shape.{IsPoint}
use Rattle.tl_segments.proofs.ShapeLemmas.{points-more, points_all, points_until}
use Rattle.tl_segments.proofs.shape.points_in.Goals as goal

pub loop-index-preserved : goal.loop-index-preserved
loop-index-preserved c = rw c.push.ensures.items (record {
  points =
      points-more c.args.rt2.now.bytes c.loop-index.points.items c.in-Some.point c.loop-index.index c.loop-index.invariant.points
      c.in-Some.ensures.value;
  counted = omega (arith, c.loop-index.invariant.counted, length-append c.loop-index.points.items (c.in-Some.point ∷ []));
  small = All-push IsPoint c.loop-index.points.items c.in-Some.point c.loop-index.invariant.small c.in-Some.ensures.small;
})

pub returns-in_default-clause-value : goal.returns-in_default-clause-value
returns-in_default-clause-value c =
    points_until c.args.rt2.now.bytes c.loop-index.points.items c.loop-index.index (omega arith) c.loop-index.invariant.points
    c.in_default.ensures.value

pub returns-clause-value : goal.returns-clause-value
returns-clause-value c =
    points_all c.args.rt2.now.bytes c.loop-index.points.items c.loop-index.index (omega arith) c.loop-index.invariant.points
