use Rattle.std.proofs.Common.{◌++◌, List, map, subst}
use Rattle.std.specs.Prelude.{reverse}
use Rattle.std.specs.List.{flat_map}
use Rattle.cql2.specs.Geometry.{edges_of_ring}
use Rattle.cql2.specs.declared.geometry.Vertex.{Vertex}
use Rattle.cql2_code.specs.Layout.{MayBeRefused}
use Rattle.cql2_code.specs.ShapeCode.{polygon_edge_code, ring_code}
use Rattle.cql2_code.proofs.ShapeWritten.{before_refused}
use Rattle.cql2_code.proofs.shapes.prepend_rings.Goals as goal

pub returns-in_err-prepend_ring : goal.returns-in_err-prepend_ring
returns-in_err-prepend_ring g c =
    let refused = subst (λ (vertices : List Vertex). MayBeRefused (flat_map polygon_edge_code (edges_of_ring vertices) ++ c.loop-ring.code)
    c.in_err-prepend_ring.field-0.0) c.as_slice.ensures.value c.in_err-prepend_ring.ensures in
    before_refused ring_code c.in-Some.ring.now c.args.code.now c.loop-ring.code c.from_residual.result _ (record {
      before = _;
      others = c.next.new.self.iter.rest.now;
      done = reverse (map (λ ring. ring.now) c.loop-ring.yielded);
      all = c.loop-ring.invariant.0;
      last = c.in-Some.ensures.steps;
      written = c.loop-ring.invariant.1;
    }) c.from_residual.ensures.1 refused
