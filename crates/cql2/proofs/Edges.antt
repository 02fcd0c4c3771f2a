-- The coordinates of a shape's edges have at most nine digits.
use Rattle.std.proofs.Common.{List, [], ◌∷◌, ◌++◌, arith}
use Rattle.std.specs.List.{flat_map}
use Rattle.cql2.specs.Geometry.{Edge, edge_of, edges_of_polygon, edges_of_ring, edges_through, point_of}
use Rattle.cql2.specs.declared.geometry.Polygon.{Polygon}
use Rattle.cql2.specs.declared.geometry.Ring.{Ring}
use Rattle.cql2.specs.declared.geometry.Vertex.{Vertex}
use Rattle.cql2.proofs.Sides.{IsNear, IsShort}

abbrev pub AreShort : List Edge → Type 0
AreShort [] = Unit {0}
AreShort (edge ∷ edges) = IsShort edge × AreShort edges

short-append : (a b : List Edge) → AreShort a → AreShort b → AreShort (a ++ b)
short-append [] b one two = two
short-append (edge ∷ a) b one two = (one.0, short-append a b one.1 two)

vertex_near : (vertex : Vertex) → IsNear (point_of vertex)
vertex_near vertex =
    let longitude = vertex.longitude_fits in
    let latitude = vertex.latitude_fits in
    record { longitude = omega arith; latitude = omega arith }

pub edge_short : (vertex next : Vertex) → IsShort (edge_of vertex next)
edge_short vertex next = record { start = vertex_near vertex; end = vertex_near next }

pub through_short : (vertices : List Vertex) → AreShort (edges_through vertices)
through_short [] = tt
through_short (vertex ∷ []) = tt
through_short (vertex ∷ next ∷ vertices) = (edge_short vertex next, through_short (next ∷ vertices))

ring_short : (vertices : List Vertex) → AreShort (edges_of_ring vertices)
ring_short [] = tt
ring_short (first ∷ vertices) = through_short (first ∷ (vertices ++ first ∷ []))

rings_short : {A : Type 0} (rings : List (Ring A)) → AreShort (flat_map (λ (ring : Ring A). edges_of_ring ring.vertices.items) rings)
rings_short [] = tt
rings_short (ring ∷ rings) = short-append (edges_of_ring ring.vertices.items) _ (ring_short ring.vertices.items) (rings_short rings)

pub polygon_short : {A : Type 0} (polygon : Polygon A) → AreShort (edges_of_polygon polygon)
polygon_short polygon = rings_short polygon.rings.items
