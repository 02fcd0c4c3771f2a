use Rattle.std.proofs.Common.{◌≡◌, ◌+◌, length, map}
use Rattle.cql2_text.specs.Geometry.{rings_of, vertices_of_polygons}
use Rattle.cql2_text.proofs.shape.left_after_polygons.Given as goal

abbrev pub invariant-loop-polygon : goal.invariant-loop-polygon
invariant-loop-polygon g l = record {
  so_far : l.left + vertices_of_polygons (map rings_of l.polygons) ≡ l.most + vertices_of_polygons (map rings_of l.rest);
}

abbrev pub decreases-loop-polygon : goal.decreases-loop-polygon
decreases-loop-polygon g l = length l.rest
