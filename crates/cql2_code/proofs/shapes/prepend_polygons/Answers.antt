use Rattle.std.proofs.Common.{map}
use Rattle.std.specs.Prelude.{reverse}
use Rattle.cql2_code.specs.ShapeCode.{polygon_code}
use Rattle.cql2_code.proofs.ShapeWritten.{before_refused}
use Rattle.cql2_code.proofs.shapes.prepend_polygons.Goals as goal

pub returns-in_err-prepend_polygon : goal.returns-in_err-prepend_polygon
returns-in_err-prepend_polygon g c =
    before_refused polygon_code c.in-Some.polygon.now c.args.code.now c.loop-polygon.code c.from_residual.result _ (record {
      before = _;
      others = c.next.new.self.iter.rest.now;
      done = reverse (map (λ polygon. polygon.now) c.loop-polygon.yielded);
      all = c.loop-polygon.invariant.0;
      last = c.in-Some.ensures.steps;
      written = c.loop-polygon.invariant.1;
    }) c.from_residual.ensures.1 c.in_err-prepend_polygon.ensures
