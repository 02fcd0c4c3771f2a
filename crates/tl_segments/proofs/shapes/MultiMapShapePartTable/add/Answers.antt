use Rattle.std.proofs.Common.{refl}
use Rattle.tl_segments.proofs.ShapeTableLemmas.{FollowsShapes, shape_added}
use Rattle.tl_segments.proofs.shapes.MultiMapShapePartTable.add.Goals as goal

pub returns : goal.returns
returns g c = λ lines holds valid.
    let part = c.of.result in
    let follows : FollowsShapes c.args.self.now lines c.args.rt2.now.bytes c.number.result part.sequence =
    record { holds = holds; valid = valid; numbered = c.number.ensures.value; has = c.of.ensures.has; small = c.of.ensures.small } in
    shape_added follows c.insert.new.self part c.of.ensures.value refl _ c.insert.ensures
