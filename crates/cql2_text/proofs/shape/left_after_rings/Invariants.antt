use Rattle.std.proofs.Common.{◌≡◌, ◌+◌, length, map}
use Rattle.cql2_text.specs.Geometry.{points_of_ring, vertices_of_polygon}
use Rattle.cql2_text.proofs.shape.left_after_rings.Given as goal

abbrev pub invariant-loop-ring : goal.invariant-loop-ring
invariant-loop-ring g l = record {
  so_far : l.left + vertices_of_polygon (map points_of_ring l.rings) ≡ l.most + vertices_of_polygon (map points_of_ring l.rest);
}

abbrev pub decreases-loop-ring : goal.decreases-loop-ring
decreases-loop-ring g l = length l.rest
