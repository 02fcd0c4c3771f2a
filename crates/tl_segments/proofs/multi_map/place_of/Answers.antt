use Rattle.std.proofs.Common.{◌-◌, arith}
use Rattle.tl_segments.proofs.ShapeLemmas.{greater-more, sequence_at-is}
use Rattle.tl_segments.proofs.multi_map.place_of.Goals as goal

pub returns-then-before-sequence-2 : goal.returns-then-before-sequence-2
returns-then-before-sequence-2 c =
    let place = c.loop-place.place in
    let parts = c.args.parts.now in
    let found = sequence_at-is parts (place - 1) c.index-parts-place.result (omega arith) c.index-parts-place.is in
    (place - 1, omega arith, omega (arith, found))

pub loop-place-preserved : goal.loop-place-preserved
loop-place-preserved c = record {
  within = omega arith;
  before =
      greater-more c.args.parts.now c.args.sequence c.loop-place.place c.index-parts-place.result (omega arith) (omega arith)
      c.index-parts-place.is (omega arith) c.loop-place.invariant.before;
}
