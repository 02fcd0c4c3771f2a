-- Geometries and where they meet (CQL2, 21-065r2, spatial functions), in whole millionths of a degree, and boxes in femtodegrees. Longitudes grow to the
-- east, latitudes to the north, and lines are straight in them.
use Rattle.std.specs.Prelude.{ℕ, ℤ, pos, ◌-ℤ◌, ◌*ℤ◌, int_le, int_lt, Bool, false, not, ◌&&◌, ◌||◌, List, [], ◌∷◌, ◌++◌, Option, Some, None, if◌then◌else◌}
use Rattle.std.specs.Bool.{beq}
use Rattle.std.specs.Int.{int_max, int_min}
use Rattle.std.specs.List.{flat_map, list_any}
use Rattle.std.specs.Ordering.{int_eq}
use Rattle.cql2.specs.Column.{numeric_value}
use Rattle.cql2.specs.declared.column.CoordinateColumn.TheVariants.{Frlong, Frlat, Tolong, Tolat}
use Rattle.cql2.specs.declared.column.NumericColumn.TheVariants.{Coordinate}
use Rattle.cql2.specs.Femtodegrees.{in_femtodegrees}
use Rattle.cql2.specs.declared.geometry.Bound.{Bound}
use Rattle.cql2.specs.declared.geometry.Bounds.{Bounds}
use Rattle.cql2.specs.declared.geometry.Polygon.{Polygon}
use Rattle.cql2.specs.declared.geometry.Polygons.{Polygons}
use Rattle.cql2.specs.declared.geometry.Shape.{Shape}
use Rattle.cql2.specs.declared.geometry.Shape.TheVariants as shape
use Rattle.cql2.specs.declared.geometry.Vertex.{Vertex}

pub record Point : Type 0 where
  pub longitude : ℤ
  pub latitude : ℤ

-- a straight line from one point to another
pub record Edge : Type 0 where
  pub start : Point
  pub end : Point

-- how far an edge goes to the east, and to the north
abbrev pub eastward : Edge → ℤ
eastward edge = edge.end.longitude -ℤ edge.start.longitude

abbrev pub northward : Edge → ℤ
northward edge = edge.end.latitude -ℤ edge.start.latitude

-- The side of an edge on which a point lies, as twice the area of their triangle: it is positive to the left of the edge, negative to the right of
-- it, and 0 on its line.
abbrev pub side : Edge → Point → ℤ
side edge point =
    eastward edge *ℤ (point.latitude -ℤ edge.start.latitude) -ℤ northward edge *ℤ (point.longitude -ℤ edge.start.longitude)

abbrev pub is_left : Edge → Point → Bool
is_left edge point = int_lt (pos 0) (side edge point)

abbrev pub is_right : Edge → Point → Bool
is_right edge point = int_lt (side edge point) (pos 0)

-- a number is one of two others or lies between them, whichever is the greater one
abbrev pub is_between : ℤ → ℤ → ℤ → Bool
is_between a b number = (int_le a number && int_le number b) || (int_le b number && int_le number a)

-- a point lies on an edge: on its line, and between its ends
abbrev pub lies_on : Edge → Point → Bool
lies_on edge point =
    int_eq (side edge point) (pos 0) && is_between edge.start.longitude edge.end.longitude point.longitude
    && is_between edge.start.latitude edge.end.latitude point.latitude

-- The ray from a point to the east crosses an edge: the point's latitude is at least the lesser one of the edge's ends and less than the greater
-- one, and the point lies to the west of the edge, which is its left side if the edge goes north.
abbrev pub is_crossed : Point → Edge → Bool
is_crossed point edge =
    not (int_lt point.latitude (int_min edge.start.latitude edge.end.latitude))
    && int_lt point.latitude (int_max edge.start.latitude edge.end.latitude)
    && (if int_lt edge.start.latitude edge.end.latitude then is_left edge point else is_right edge point)

-- the ray crosses an odd number of edges
abbrev pub crosses_odd : Point → List Edge → Bool
crosses_odd point [] = false
crosses_odd point (edge ∷ edges) = not (beq (is_crossed point edge) (crosses_odd point edges))

-- both of two numbers are less than another, or both are greater
abbrev pub are_less : ℤ → ℤ → ℤ → Bool
are_less a b other = int_lt a other && int_lt b other

abbrev pub are_greater : ℤ → ℤ → ℤ → Bool
are_greater a b other = int_lt other a && int_lt other b

-- the ranges between two numbers and between two others have a number in common
abbrev pub ranges_overlap : ℤ → ℤ → ℤ → ℤ → Bool
ranges_overlap a b c d = not (are_less a b (int_min c d)) && not (are_greater a b (int_max c d))

-- the boxes around two edges have a point in common
abbrev pub boxes_overlap : Edge → Edge → Bool
boxes_overlap line edge =
    ranges_overlap line.start.longitude line.end.longitude edge.start.longitude edge.end.longitude
    && ranges_overlap line.start.latitude line.end.latitude edge.start.latitude edge.end.latitude

-- both ends of an edge lie on the same side of a line, and not on it
abbrev pub lies_beside : Edge → Edge → Bool
lies_beside line edge = (is_left line edge.start && is_left line edge.end) || (is_right line edge.start && is_right line edge.end)

-- two edges have a point in common: neither lies beside the other, and their boxes have one
abbrev pub meets_edge : Edge → Edge → Bool
meets_edge line edge = not (lies_beside edge line) && not (lies_beside line edge) && boxes_overlap line edge

abbrev pub meets_some : List Edge → Edge → Bool
meets_some edges line = list_any (meets_edge line) edges

-- Edges of shapes

abbrev pub point_of : Vertex → Point
point_of vertex = record { longitude = vertex.longitude; latitude = vertex.latitude }

abbrev pub edge_of : Vertex → Vertex → Edge
edge_of vertex next = record { start = point_of vertex; end = point_of next }

-- the edges of a line through vertices
abbrev pub edges_through : List Vertex → List Edge
edges_through [] = []
edges_through (vertex ∷ []) = []
edges_through (vertex ∷ next ∷ vertices) = edge_of vertex next ∷ edges_through (next ∷ vertices)

abbrev pub edges_of_ring : List Vertex → List Edge
edges_of_ring [] = []
edges_of_ring (first ∷ vertices) = edges_through (first ∷ (vertices ++ first ∷ []))

abbrev pub edges_of_polygon : {A : Type 0} → Polygon A → List Edge
edges_of_polygon polygon = flat_map (λ ring. edges_of_ring ring.vertices.items) polygon.rings.items

-- Boxes, in femtodegrees

abbrev pub femtodegrees : Bound → ℤ
femtodegrees bound = in_femtodegrees bound.millionths bound.rest

-- a point and a line in millionths of a degree, in femtodegrees
abbrev pub finer : Point → Point
finer point = record { longitude = in_femtodegrees point.longitude 0; latitude = in_femtodegrees point.latitude 0 }

abbrev pub finer_edge : Edge → Edge
finer_edge edge = record { start = finer edge.start; end = finer edge.end }

abbrev pub corner : Bound → Bound → Point
corner longitude latitude = record { longitude = femtodegrees longitude; latitude = femtodegrees latitude }

-- the four edges of a box, to the east and to the north
abbrev pub edges_of_bounds : Bounds → List Edge
edges_of_bounds bounds =
    record { start = corner bounds.west bounds.south; end = corner bounds.east bounds.south }
    ∷ record { start = corner bounds.east bounds.south; end = corner bounds.east bounds.north }
    ∷ record { start = corner bounds.west bounds.north; end = corner bounds.east bounds.north }
    ∷ record { start = corner bounds.west bounds.south; end = corner bounds.west bounds.north } ∷ []

-- Shapes

-- a point lies inside a polygon, by the even-odd rule: a ring's edges count even where it lies inside another ring or crosses itself
abbrev pub lies_inside : {A : Type 0} → Polygon A → Point → Bool
lies_inside polygon point = crosses_odd point (edges_of_polygon polygon)

-- a point lies inside a polygon or on its edge
abbrev pub lies_in : {A : Type 0} → Point → Polygon A → Bool
lies_in point polygon = lies_inside polygon point || list_any (λ edge. lies_on edge point) (edges_of_polygon polygon)

-- a point lies in a box or on its edge
abbrev pub lies_in_bounds : Bounds → Point → Bool
lies_in_bounds bounds point =
    int_le (femtodegrees bounds.west) (finer point).longitude && int_le (finer point).longitude (femtodegrees bounds.east)
    && int_le (femtodegrees bounds.south) (finer point).latitude && int_le (finer point).latitude (femtodegrees bounds.north)

-- a line lies in a box, which includes its edge: both of the line's ends do
abbrev pub contains : Bounds → Edge → Bool
contains bounds line = lies_in_bounds bounds line.start && lies_in_bounds bounds line.end

-- a line has a point in common with a polygon, which its edge belongs to: one of the line's ends lies inside, or it meets the edge
abbrev pub meets_polygon : {A : Type 0} → Edge → Polygon A → Bool
meets_polygon line polygon =
    lies_inside polygon line.start || lies_inside polygon line.end || meets_some (edges_of_polygon polygon) line

-- a line has a point in common with a shape
abbrev pub meets : {A : Type 0} → Shape A → Edge → Bool
meets (shape.Point vertex) line = meets_edge line (edge_of vertex vertex)
meets (shape.Line vertices) line = meets_some (edges_through vertices.items) line
meets (shape.Bounds bounds) line =
    lies_in_bounds bounds line.start || lies_in_bounds bounds line.end || meets_some (edges_of_bounds bounds) (finer_edge line)
meets (shape.Polygons several) line = list_any (meets_polygon line) several.polygons.items

-- a point lies in one of several polygons
abbrev pub lies_in_some : {A : Type 0} → Polygons A → Point → Bool
lies_in_some several point = list_any (lies_in point) several.polygons.items

-- Segments

-- the point at a longitude and a latitude, if both are known
abbrev pub point_at : Option ℤ → Option ℤ → Option Point
point_at None latitude = None
point_at (Some longitude) None = None
point_at (Some longitude) (Some latitude) = Some (record { longitude = longitude; latitude = latitude })

abbrev pub edge_between : Option Point → Option Point → Option Edge
edge_between None end = None
edge_between (Some start) None = None
edge_between (Some start) (Some end) = Some (record { start = start; end = end })

-- the point where a segment starts, and the one where it ends; none, that is NULL, if one of its coordinates is
abbrev pub start_of : List ℕ → Option Point
start_of line = point_at (numeric_value (Coordinate Frlong) line) (numeric_value (Coordinate Frlat) line)

abbrev pub end_of : List ℕ → Option Point
end_of line = point_at (numeric_value (Coordinate Tolong) line) (numeric_value (Coordinate Tolat) line)

-- the geometry of a segment: the straight line from its start to its end
abbrev pub geometry_of : List ℕ → Option Edge
geometry_of line = edge_between (start_of line) (end_of line)
