-- The code that decides whether a segment's line meets a shape. Registers 7 and 8 hold the longitude and latitude where the line starts, registers 9
-- and 5 those where it ends, and register 0 how far its start lies across it. Register 1 holds the marks: 1 and 2 while the rays from the two ends
-- have crossed an odd number of a polygon's edges, and 4 once the line meets the shape. Registers 2 to 4 are for computing.
use Rattle.std.specs.Prelude.{ℕ, ◌+◌, ◌-◌, ◌*◌, ◌^◌, ◌==◌, ◌&&◌, ℤ, pos, ◌+ℤ◌, ◌-ℤ◌, ◌*ℤ◌, int_lt, Bool, List, [], ◌∷◌, ◌++◌, Option, Some, None}
use Rattle.std.specs.Prelude.{if◌then◌else◌}
use Rattle.std.specs.Int.{int_max, int_min}
use Rattle.std.specs.List.{flat_map}
use Rattle.std.proofs.Common.{lit≤}
use Rattle.bpf_insn.specs.Arithmetic.{immediate_operand}
use Rattle.bpf_insn.specs.declared.instruction.Insn.{Insn}
use Rattle.bpf_insn.specs.declared.instruction.Insn.TheVariants.{Alu, MoveSignExtended}
use Rattle.bpf_insn.specs.declared.instruction.Operation.{Operation}
use Rattle.bpf_insn.specs.declared.instruction.Operation.TheVariants as operation
use Rattle.bpf_insn.specs.declared.instruction.SignExtension.TheVariants.{Bits32To64}
use Rattle.bpf_insn.specs.declared.instruction.Source.TheVariants.{Immediate}
use Rattle.bpf_insn.specs.declared.instruction.Source.TheVariants as source
use Rattle.bpf_insn.specs.declared.instruction.Width.TheVariants.{Bits64}
use Rattle.bpf_insn.specs.declared.register.Register.{Register}
use Rattle.bpf_insn.specs.declared.register.WritableRegister.{WritableRegister}
use Rattle.cql2.specs.Geometry.{Edge, Point, eastward, edge_of, edges_of_polygon, edges_of_ring, edges_through, meets, northward}
use Rattle.cql2.specs.Column.{numeric_value}
use Rattle.cql2.specs.declared.column.CoordinateColumn.{CoordinateColumn}
use Rattle.cql2.specs.declared.column.CoordinateColumn.TheVariants.{Frlong, Frlat, Tolong, Tolat}
use Rattle.cql2.specs.declared.column.NumericColumn.TheVariants.{Coordinate}
use Rattle.cql2.specs.declared.filter.Comparison.{Comparison}
use Rattle.cql2.specs.declared.filter.Comparison.TheVariants.{Equal, NotEqual, Less, LessOrEqual, Greater, GreaterOrEqual}
use Rattle.cql2.specs.declared.geometry.Bound.{Bound}
use Rattle.cql2.specs.declared.geometry.Bounds.{Bounds}
use Rattle.cql2.specs.declared.geometry.Polygon.{Polygon}
use Rattle.cql2.specs.declared.geometry.Ring.{Ring}
use Rattle.cql2.specs.declared.geometry.Shape.{Shape}
use Rattle.cql2.specs.declared.geometry.Shape.TheVariants as shape
use Rattle.tl_segments.specs.Segment.{SegmentParts}
use Rattle.cql2_code.specs.Layout.{comparison_code, copy, from_argument_1, from_saved, from_result, into_argument_1, into_saved, into_result}
use Rattle.cql2_code.specs.Layout.{move, subject_code, wide_load}
use Rattle.cql2_code.specs.Question.{Block}
use Rattle.cql2_code.specs.Skipping.{Compared, skip, turned, unless, unless_both}
use Rattle.cql2_code.specs.declared.bounds.Corner.{Corner}
use Rattle.cql2_code.specs.declared.bounds.Rectangle.{Rectangle}
use Rattle.cql2_code.specs.declared.bounds.Rounding.{Rounding}
use Rattle.cql2_code.specs.declared.bounds.Rounding.TheVariants.{Down, Up}
use Rattle.cql2_code.specs.declared.edges.EdgeLimits.{EdgeLimits}
use Rattle.cql2_code.specs.declared.line.Extent.{Extent}
use Rattle.cql2_code.specs.declared.line.Extent.TheVariants.{Whole, Start}
use Rattle.cql2_code.specs.declared.question.Subject.TheVariants as subject

-- registers 2 to 5; register 2 receives a side, and registers 3 and 4 the operands of what is computed
abbrev pub into_side : WritableRegister
into_side = record { number = 2; in_range = lit≤ tt }

abbrev pub from_side : Register
from_side = record { number = 2; in_range = lit≤ tt }

abbrev pub into_first : WritableRegister
into_first = record { number = 3; in_range = lit≤ tt }

abbrev pub from_first : Register
from_first = record { number = 3; in_range = lit≤ tt }

abbrev pub into_second : WritableRegister
into_second = record { number = 4; in_range = lit≤ tt }

abbrev pub from_second : Register
from_second = record { number = 4; in_range = lit≤ tt }

abbrev pub into_end_latitude : WritableRegister
into_end_latitude = record { number = 5; in_range = lit≤ tt }

abbrev pub from_end_latitude : Register
from_end_latitude = record { number = 5; in_range = lit≤ tt }

abbrev pub from_start_longitude : Register
from_start_longitude = from_saved 0

abbrev pub from_start_latitude : Register
from_start_latitude = from_saved 1

abbrev pub from_end_longitude : Register
from_end_longitude = from_saved 2

abbrev pub combine : Operation → WritableRegister → Register → Insn
combine operation register other = Alu operation Bits64 register (source.Register other)

abbrev pub combine_number : Operation → WritableRegister → ℤ → Insn
combine_number operation register number = Alu operation Bits64 register (Immediate number)

abbrev pub compare : Comparison → Register → Register → Compared
compare comparison left right = record { comparison = comparison; left = left; right = source.Register right }

abbrev pub compare_number : Comparison → Register → ℤ → Compared
compare_number comparison left number = record { comparison = comparison; left = left; right = Immediate number }

-- how far an edge's start lies across it, to its left
abbrev pub start_across : Edge → ℤ
start_across edge = eastward edge *ℤ edge.start.latitude -ℤ northward edge *ℤ edge.start.longitude

-- how far an end of the line lies across an edge's direction, by the registers of its longitude and latitude
abbrev pub across_by : ℤ → ℤ → Register → Register → List Insn
across_by east north longitude latitude =
    copy into_first latitude ∷ combine_number operation.Multiply into_first east
    ∷ copy into_second longitude ∷ combine_number operation.Multiply into_second north
    ∷ combine operation.Subtract into_first from_second ∷ []

abbrev pub end_across : Edge → Register → Register → List Insn
end_across edge longitude latitude = across_by (eastward edge) (northward edge) longitude latitude

-- how far the line goes to the east and to the north
abbrev pub line_eastward : List Insn
line_eastward = copy into_first from_end_longitude ∷ combine operation.Subtract into_first from_start_longitude ∷ []

abbrev pub line_northward : List Insn
line_northward = copy into_second from_end_latitude ∷ combine operation.Subtract into_second from_start_latitude ∷ []

-- how far a point lies across the line
abbrev pub point_across : Point → List Insn
point_across point =
    line_eastward ++ combine_number operation.Multiply into_first point.latitude
    ∷ (line_northward ++ combine_number operation.Multiply into_second point.longitude ∷ combine operation.Subtract into_first from_second ∷ [])

-- how far the line's start lies across it
abbrev pub lead_code : List Insn
lead_code =
    line_eastward ++ combine operation.Multiply into_first from_start_latitude
    ∷ (line_northward ++ combine operation.Multiply into_second from_start_longitude ∷ combine operation.Subtract into_first from_second
    ∷ copy into_result from_first ∷ [])

-- how far the line's start and end lie across an edge, into registers 2 and 3, and the edge's start, into register 4
abbrev pub sides_code : Edge → List Insn
sides_code edge =
    end_across edge from_start_longitude from_start_latitude ++ copy into_side from_first
    ∷ (end_across edge from_end_longitude from_end_latitude ++ wide_load into_second (immediate_operand (start_across edge)) ∷ [])

-- the ray from an end of the line crosses an edge: its mark is exchanged
abbrev pub ray_code : Edge → Register → Register → ℤ → List Insn
ray_code edge latitude side mark =
    unless (compare_number Less latitude (int_min edge.start.latitude edge.end.latitude))
    (unless (compare_number GreaterOrEqual latitude (int_max edge.start.latitude edge.end.latitude))
    (unless (compare (if int_lt edge.start.latitude edge.end.latitude then LessOrEqual else GreaterOrEqual) side from_second)
    (combine_number operation.ExclusiveOr into_argument_1 mark ∷ [])))

abbrev pub rays_code : Edge → List Insn
rays_code edge = ray_code edge from_start_latitude from_side (pos 1) ++ ray_code edge from_end_latitude from_first (pos 2)

abbrev pub marks_met : List Insn
marks_met = combine_number operation.Or into_argument_1 (pos 4) ∷ []

-- a part is skipped if both ends lie beyond limits in one of the four directions
abbrev pub unless_beyond : EdgeLimits → List Insn → List Insn
unless_beyond limits part =
    unless_both (compare_number Less from_start_longitude limits.west) (compare_number Less from_end_longitude limits.west)
    (unless_both (compare_number Greater from_start_longitude limits.east) (compare_number Greater from_end_longitude limits.east)
    (unless_both (compare_number Less from_start_latitude limits.south) (compare_number Less from_end_latitude limits.south)
    (unless_both (compare_number Greater from_start_latitude limits.north) (compare_number Greater from_end_latitude limits.north) part)))

abbrev pub limits_of : Edge → EdgeLimits
limits_of edge = record {
  west = int_min edge.start.longitude edge.end.longitude;
  east = int_max edge.start.longitude edge.end.longitude;
  south = int_min edge.start.latitude edge.end.latitude;
  north = int_max edge.start.latitude edge.end.latitude;
}

-- a part is skipped if registers 2 and 3 are both greater than another, or both less
abbrev pub unless_beside : Register → List Insn → List Insn
unless_beside other part =
    unless_both (compare Greater from_side other) (compare Greater from_first other)
    (unless_both (compare Less from_side other) (compare Less from_first other) part)

-- these jumps, past the words of the part
abbrev pub beside_by : Register → ℕ → List Insn
beside_by other words =
    skip (compare LessOrEqual from_side other) 1 ∷ skip (compare Greater from_first other) (words + 2)
    ∷ skip (compare GreaterOrEqual from_side other) 1 ∷ skip (compare Less from_first other) words ∷ []

-- the line meets an edge, after the sides of the line's ends are known
abbrev pub meets_code : Edge → List Insn
meets_code edge =
    unless_beside from_second
    (point_across edge.start ++ copy into_side from_first ∷ (point_across edge.end ++ unless_beside from_result (unless_beyond (limits_of edge) marks_met)))

abbrev pub edge_code : Edge → List Insn
edge_code edge = sides_code edge ++ meets_code edge

abbrev pub polygon_edge_code : Edge → List Insn
polygon_edge_code edge = sides_code edge ++ (rays_code edge ++ meets_code edge)

-- after a polygon's edges: the line meets it if one of its ends lies inside
abbrev pub inside_code : List Insn
inside_code =
    copy into_first from_argument_1 ∷ combine_number operation.And into_first (pos 3)
    ∷ (unless (compare_number Equal from_first (pos 0)) marks_met ++ combine_number operation.And into_argument_1 (pos 4) ∷ [])

abbrev pub ring_code : {A : Type 0} → Ring A → List Insn
ring_code ring = flat_map polygon_edge_code (edges_of_ring ring.vertices.items)

abbrev pub polygon_code : {A : Type 0} → Polygon A → List Insn
polygon_code polygon = flat_map polygon_edge_code (edges_of_polygon polygon) ++ inside_code

-- Boxes. The line's coordinates are whole millionths of a degree, so that bounds can be rounded inwards.

-- the least whole number of millionths of a degree that isn't below a bound
abbrev pub rounded_up : Bound → ℤ
rounded_up bound = if bound.rest == 0 then bound.millionths else bound.millionths +ℤ pos 1

abbrev pub inner_limits : Rectangle → EdgeLimits
inner_limits edge =
    record { west = rounded_up edge.west; east = edge.east.millionths; south = rounded_up edge.south; north = edge.north.millionths }

-- a part is skipped unless an end of the line lies in a box, by the registers of the end's longitude and latitude
abbrev pub unless_outside : Bounds → Register → Register → List Insn → List Insn
unless_outside bounds longitude latitude part =
    unless (compare_number Less longitude (rounded_up bounds.west))
    (unless (compare_number Greater longitude bounds.east.millionths)
    (unless (compare_number Less latitude (rounded_up bounds.south))
    (unless (compare_number Greater latitude bounds.north.millionths) part)))

-- these jumps, past the words of the part
abbrev pub outside_by : Bounds → Register → Register → ℕ → List Insn
outside_by bounds longitude latitude words =
    skip (compare_number Less longitude (rounded_up bounds.west)) (words + 3)
    ∷ skip (compare_number Greater longitude bounds.east.millionths) (words + 2)
    ∷ skip (compare_number Less latitude (rounded_up bounds.south)) (words + 1)
    ∷ skip (compare_number Greater latitude bounds.north.millionths) words ∷ []

-- the edges of a box
abbrev pub south_edge : Bounds → Rectangle
south_edge bounds = record { west = bounds.west; south = bounds.south; east = bounds.east; north = bounds.south }

abbrev pub east_edge : Bounds → Rectangle
east_edge bounds = record { west = bounds.east; south = bounds.south; east = bounds.east; north = bounds.north }

abbrev pub north_edge : Bounds → Rectangle
north_edge bounds = record { west = bounds.west; south = bounds.north; east = bounds.east; north = bounds.north }

abbrev pub west_edge : Bounds → Rectangle
west_edge bounds = record { west = bounds.west; south = bounds.south; east = bounds.west; north = bounds.north }

abbrev pub rectangles_of : Bounds → List Rectangle
rectangles_of bounds = south_edge bounds ∷ east_edge bounds ∷ north_edge bounds ∷ west_edge bounds ∷ []

-- where an edge starts and ends
abbrev pub southwest : Rectangle → Corner
southwest edge = record { longitude = edge.west; latitude = edge.south }

abbrev pub northeast : Rectangle → Corner
northeast edge = record { longitude = edge.east; latitude = edge.north }

-- A corner in whole millionths of a degree, and the femtodegrees beyond them. How far the corner lies across the line is, in millionths, what the
-- former does and a 10^9th of what the latter do.
abbrev pub whole_point : Corner → Point
whole_point corner = record { longitude = corner.longitude.millionths; latitude = corner.latitude.millionths }

abbrev pub rest_point : Corner → Point
rest_point corner = record { longitude = pos corner.longitude.rest; latitude = pos corner.latitude.rest }

-- a 10^9th of the number in register 3, rounded: a quotient towards zero is rounded down where no number is negative
abbrev pub rounding_shift : Rounding → ℕ
rounding_shift Down = 4 * 10 ^ 18
rounding_shift Up = 4 * 10 ^ 18 + (10 ^ 9 - 1)

abbrev pub round_first : Rounding → List Insn
round_first rounding =
    wide_load into_second (rounding_shift rounding) ∷ combine operation.Add into_first from_second
    ∷ combine_number operation.SignedDivide into_first (pos 1000000000) ∷ combine_number operation.Subtract into_first (pos 2000000000)
    ∷ combine_number operation.Subtract into_first (pos 2000000000) ∷ []

-- how far a point lies across the line is added to register 3
abbrev pub add_across : Point → List Insn
add_across point =
    copy into_second from_end_longitude ∷ combine operation.Subtract into_second from_start_longitude
    ∷ combine_number operation.Multiply into_second point.latitude ∷ combine operation.Add into_first from_second
    ∷ (line_northward ++ combine_number operation.Multiply into_second point.longitude ∷ combine operation.Subtract into_first from_second ∷ [])

-- how far a corner lies across the line, rounded to whole millionths, into register 3
abbrev pub rounded_across : Rounding → Corner → List Insn
rounded_across rounding corner = point_across (rest_point corner) ++ (round_first rounding ++ add_across (whole_point corner))

abbrev pub corner_across : Rounding → Corner → List Insn
corner_across rounding corner =
    if corner.longitude.rest == 0 && corner.latitude.rest == 0 then point_across (whole_point corner) else rounded_across rounding corner

-- how far an edge's start and end do, into registers 2 and 3
abbrev pub corners_across : Rounding → Rectangle → List Insn
corners_across rounding edge =
    corner_across rounding (southwest edge) ++ copy into_side from_first ∷ corner_across rounding (northeast edge)

-- a part is skipped if registers 2 and 3 both compare with register 0 like this
abbrev pub unless_both_lie : Comparison → List Insn → List Insn
unless_both_lie comparison part = unless_both (compare comparison from_side from_result) (compare comparison from_first from_result) part

-- these jumps, past the words of the part
abbrev pub both_lie_by : Comparison → ℕ → List Insn
both_lie_by comparison words = skip (turned (compare comparison from_side from_result)) 1 ∷ skip (compare comparison from_first from_result) words ∷ []

-- The line meets an edge. An edge goes to the east or to the north, so that the line doesn't lie beside it if it isn't beyond it.
abbrev pub bounds_edge_code : Rectangle → List Insn
bounds_edge_code edge =
    corners_across Up edge
    ++ unless_both_lie Greater (corners_across Down edge ++ unless_both_lie Less (unless_beyond (inner_limits edge) marks_met))

-- an end of the line lies in a box
abbrev pub ends_code : Bounds → List Insn
ends_code bounds =
    unless_outside bounds from_start_longitude from_start_latitude marks_met ++ unless_outside bounds from_end_longitude from_end_latitude marks_met

abbrev pub bounds_code : Bounds → List Insn
bounds_code bounds = ends_code bounds ++ flat_map bounds_edge_code (rectangles_of bounds)

abbrev pub shape_code : {A : Type 0} → Shape A → List Insn
shape_code (shape.Point vertex) = edge_code (edge_of vertex vertex)
shape_code (shape.Line vertices) = flat_map edge_code (edges_through vertices.items)
shape_code (shape.Bounds bounds) = bounds_code bounds
shape_code (shape.Polygons several) = flat_map polygon_code several.polygons.items

-- The columns of the coordinates where the line ends. If only its start is read, it ends where it starts.
abbrev pub end_longitude : Extent → CoordinateColumn
end_longitude Whole = Tolong
end_longitude Start = Frlong

abbrev pub end_latitude : Extent → CoordinateColumn
end_latitude Whole = Tolat
end_latitude Start = Frlat

abbrev pub read_coordinate : CoordinateColumn → List Insn
read_coordinate column = subject_code (subject.Coordinate column)

abbrev pub keep_coordinate : ℕ → CoordinateColumn → List Insn
keep_coordinate level column = read_coordinate column ++ copy (into_saved level) from_result ∷ []

-- The other registers are set, in an order that leaves no doubt which of them are set before an instruction.
abbrev pub set_registers : List Insn
set_registers =
    wide_load into_argument_1 0 ∷ copy into_end_latitude from_result ∷ wide_load into_first 0 ∷ move into_second (pos 0)
    ∷ MoveSignExtended Bits32To64 into_side from_result ∷ []

-- the line is read
abbrev pub line_code : Extent → List Insn
line_code extent =
    keep_coordinate 0 Frlong
    ++ (keep_coordinate 1 Frlat ++ (keep_coordinate 2 (end_longitude extent) ++ (read_coordinate (end_latitude extent) ++ set_registers)))

-- A code that leaves marks in register 1: 4 if the line is marked, and otherwise 0.
pub record Marking : Type 0 where
  pub code : List Insn
  pub is_marked : Edge → Bool

-- the marks, into register 3
abbrev pub marks_code : Marking → List Insn
marks_code marking = marking.code ++ copy into_first from_argument_1 ∷ []

-- the marks are compared with 0
abbrev pub mark_comparison : Bool → ℕ → List Insn
mark_comparison falls skip = copy into_result from_first ∷ comparison_code (if falls then Equal else NotEqual) (pos 0) skip

-- a coordinate of a segment's ends; 0 if it is missing
abbrev pub or_zero : Option ℤ → ℤ
or_zero None = pos 0
or_zero (Some millionths) = millionths

abbrev pub coordinate_at : SegmentParts → CoordinateColumn → ℤ
coordinate_at segment column = or_zero (numeric_value (Coordinate column) segment.bytes)

-- the straight line from a segment's start to its end, or to its start
abbrev pub line_of : Extent → SegmentParts → Edge
line_of extent segment = record {
  start = record { longitude = coordinate_at segment Frlong; latitude = coordinate_at segment Frlat };
  end = record { longitude = coordinate_at segment (end_longitude extent); latitude = coordinate_at segment (end_latitude extent) };
}

-- the line that is read is marked
abbrev pub asks_marks : Extent → Marking → Block
asks_marks extent marking = record {
  code = λ falls skip. line_code extent ++ (marks_code marking ++ mark_comparison falls skip);
  answer = λ segment. marking.is_marked (line_of extent segment);
}

-- lines that meet a shape are marked
abbrev pub marks_shape : {A : Type 0} → Shape A → Marking
marks_shape shape = record { code = lead_code ++ shape_code shape; is_marked = meets shape }

abbrev pub meets_shape : {A : Type 0} → Extent → Shape A → Block
meets_shape extent shape = asks_marks extent (marks_shape shape)
