-- The code of a shape passes the verifier's checks.
use Rattle.std.proofs.Common.{ℕ, ◌^◌, ◌<◌, ◌==◌, ◌&&◌, ℤ, pos, Bool, true, false, List, [], ◌∷◌, ◌++◌, if◌then◌else◌, arith, lit<}
use Rattle.std.specs.Prelude.{FitsSigned}
use Rattle.std.specs.Int.{w64, int_max, int_min}
use Rattle.std.specs.List.{flat_map}
use Rattle.bpf_insn.specs.declared.instruction.Insn.{Insn}
use Rattle.bpf_insn.specs.declared.register.Register.{Register}
use Rattle.cql2.specs.Geometry.{Edge, Point, edge_of, edges_of_polygon, edges_through}
use Rattle.cql2.specs.declared.filter.Comparison.{Comparison}
use Rattle.cql2.specs.declared.filter.Comparison.TheVariants.{Equal, Greater, GreaterOrEqual, Less, LessOrEqual}
use Rattle.cql2.specs.declared.geometry.Bounds.{Bounds}
use Rattle.cql2.specs.declared.geometry.Polygon.{Polygon}
use Rattle.cql2.specs.declared.geometry.Shape.{Shape}
use Rattle.cql2.specs.declared.geometry.Shape.TheVariants as shape
use Rattle.cql2.proofs.Edges.{AreShort, edge_short, polygon_short, through_short}
use Rattle.cql2.proofs.Sides.{IsNear, IsShort}
use Rattle.cql2_code.specs.Layout.{from_result, wide_load}
use Rattle.cql2_code.specs.ShapeCode.{compare, compare_number, edge_code, end_across, from_end_latitude, from_end_longitude, into_second}
use Rattle.cql2_code.specs.ShapeCode.{from_second, from_side, from_start_latitude, from_start_longitude, inside_code, lead_code, line_eastward, line_northward}
use Rattle.cql2_code.specs.ShapeCode.{marks_met, meets_code, point_across, polygon_code, polygon_edge_code, rays_code, shape_code}
use Rattle.cql2_code.specs.ShapeCode.{sides_code, start_across, unless_beside}
use Rattle.cql2_code.specs.ShapeCode.{add_across, bounds_edge_code, corner_across, corners_across, inner_limits, limits_of, northeast, rectangles_of}
use Rattle.cql2_code.specs.ShapeCode.{rest_point, round_first, rounded_up, rounding_shift, southwest, unless_beyond, unless_outside, whole_point}
use Rattle.cql2_code.specs.declared.bounds.Corner.{Corner}
use Rattle.cql2_code.specs.declared.bounds.Rectangle.{Rectangle}
use Rattle.cql2_code.specs.declared.bounds.Rounding.{Rounding}
use Rattle.cql2_code.specs.declared.bounds.Rounding.TheVariants.{Down, Up}
use Rattle.cql2_code.specs.WithinCode.{within_code}
use Rattle.cql2_code.specs.declared.edges.EdgeLimits.{EdgeLimits}
use Rattle.cql2_code.specs.declared.line.Extent.{Extent}
use Rattle.cql2_code.specs.declared.line.Extent.TheVariants.{Whole, Start}
use Rattle.cql2_code.proofs.BoundsSides.{rest_near, whole_near}
use Rattle.cql2_code.proofs.Drawn.{Draws, Skips, draws_both, draws_none, draws_unless, draws_unless_both}
use Rattle.cql2_code.proofs.Operands.{operand_fits}
use Rattle.cql2_code.proofs.ShapeInsns as insns
use Rattle.cql2_code.proofs.SideWords.{eastward_fits, near_fits, northward_fits, start_fits}

on : {insn : Insn} {rest : List Insn} → Draws (insn ∷ []) → Draws rest → Draws (insn ∷ rest)
on {insn} {rest} one two = draws_both (insn ∷ []) rest one two

and : {a b : List Insn} → Draws a → Draws b → Draws (a ++ b)
and {a} {b} one two = draws_both a b one two

small : (n : ℕ) → n < 2 ^ 63 → FitsSigned w64 (pos n)
small n few = record { sfits = few }

-- how far points lie across edges and the line

eastward_draws : Draws line_eastward
eastward_draws = on insns.copies_end_longitude_to_first insns.subtracts_start_longitude_from_first

northward_draws : Draws line_northward
northward_draws = on insns.copies_end_latitude_to_second insns.subtracts_start_latitude_from_second

point_across_draws : (point : Point) → IsNear point → Draws (point_across point)
point_across_draws point near =
    and eastward_draws
    (on (insns.multiplies_first point.latitude (near_fits point near).1)
    (and northward_draws (on (insns.multiplies_second point.longitude (near_fits point near).0) insns.subtracts_second_from_first)))

pub lead_draws : Draws lead_code
lead_draws =
    and eastward_draws
    (on insns.multiplies_first_by_start_latitude
    (and northward_draws
    (on insns.multiplies_second_by_start_longitude (on insns.subtracts_second_from_first insns.copies_first_to_result))))

marks_met_draws : Draws marks_met
marks_met_draws = insns.marks_argument_1 (pos 4) (small 4 (omega arith))

-- parts that are skipped if the line lies beyond a box or beside another line

beyond_draws : (limits : EdgeLimits) (part : List Insn) → Draws part → Draws (unless_beyond limits part)
beyond_draws limits part draws =
    draws_unless_both (compare_number Less from_start_longitude limits.west) _ _
    (insns.start_longitude_skips GreaterOrEqual limits.west) (insns.end_longitude_skips Less limits.west)
    (draws_unless_both (compare_number Greater from_start_longitude limits.east) _ _
    (insns.start_longitude_skips LessOrEqual limits.east) (insns.end_longitude_skips Greater limits.east)
    (draws_unless_both (compare_number Less from_start_latitude limits.south) _ _
    (insns.start_latitude_skips GreaterOrEqual limits.south) (insns.end_latitude_skips Less limits.south)
    (draws_unless_both (compare_number Greater from_start_latitude limits.north) _ part
    (insns.start_latitude_skips LessOrEqual limits.north) (insns.end_latitude_skips Greater limits.north) draws)))

beside_second_draws : (part : List Insn) → Draws part → Draws (unless_beside from_second part)
beside_second_draws part draws =
    draws_unless_both (compare Greater from_side from_second) _ _ (insns.side_second_skips LessOrEqual) (insns.first_second_skips Greater)
    (draws_unless_both (compare Less from_side from_second) _ part (insns.side_second_skips GreaterOrEqual) (insns.first_second_skips Less) draws)

beside_result_draws : (part : List Insn) → Draws part → Draws (unless_beside from_result part)
beside_result_draws part draws =
    draws_unless_both (compare Greater from_side from_result) _ _ (insns.side_result_skips LessOrEqual) (insns.first_result_skips Greater)
    (draws_unless_both (compare Less from_side from_result) _ part (insns.side_result_skips GreaterOrEqual) (insns.first_result_skips Less) draws)

module _ (edge : Edge) (short : IsShort edge) where
  start_across_draws : Draws (end_across edge from_start_longitude from_start_latitude)
  start_across_draws =
      on insns.copies_start_latitude_to_first
      (on (insns.multiplies_first _ (eastward_fits edge short))
      (on insns.copies_start_longitude_to_second
      (on (insns.multiplies_second _ (northward_fits edge short)) insns.subtracts_second_from_first)))

  end_across_draws : Draws (end_across edge from_end_longitude from_end_latitude)
  end_across_draws =
      on insns.copies_end_latitude_to_first
      (on (insns.multiplies_first _ (eastward_fits edge short))
      (on insns.copies_end_longitude_to_second
      (on (insns.multiplies_second _ (northward_fits edge short)) insns.subtracts_second_from_first)))

  sides_draws : Draws (sides_code edge)
  sides_draws =
      and start_across_draws
      (on insns.copies_first_to_side
      (and end_across_draws (insns.loads_second _ (operand_fits (start_across edge) (start_fits edge short)))))

  rays_draws : Draws (rays_code edge)
  rays_draws =
      let south = int_min edge.start.latitude edge.end.latitude in
      let north = int_max edge.start.latitude edge.end.latitude in
      and
      (draws_unless _ _ (insns.start_latitude_skips Less south)
      (draws_unless _ _ (insns.start_latitude_skips GreaterOrEqual north)
      (draws_unless _ _ (insns.side_second_skips _) (insns.exchanges_argument_1 (pos 1) (small 1 (omega arith))))))
      (draws_unless _ _ (insns.end_latitude_skips Less south)
      (draws_unless _ _ (insns.end_latitude_skips GreaterOrEqual north)
      (draws_unless _ _ (insns.first_second_skips _) (insns.exchanges_argument_1 (pos 2) (small 2 (omega arith))))))

  meets_draws : Draws (meets_code edge)
  meets_draws =
      beside_second_draws _
      (and (point_across_draws edge.start short.start)
      (on insns.copies_first_to_side
      (and (point_across_draws edge.end short.end) (beside_result_draws _ (beyond_draws (limits_of edge) marks_met marks_met_draws)))))

  pub edge_draws : Draws (edge_code edge)
  edge_draws = and sides_draws meets_draws

  pub polygon_edge_draws : Draws (polygon_edge_code edge)
  polygon_edge_draws = and sides_draws (and rays_draws meets_draws)

pub inside_draws : Draws inside_code
inside_draws =
    on insns.copies_argument_1_to_first
    (on (insns.masks_first (pos 3) (small 3 (omega arith)))
    (and (draws_unless _ _ (insns.first_skips Equal (pos 0)) marks_met_draws) (insns.masks_argument_1 (pos 4) (small 4 (omega arith)))))

-- each of several edges
each_draws : (code : Edge → List Insn) → ((edge : Edge) → IsShort edge → Draws (code edge)) → (edges : List Edge) → AreShort edges
    → Draws (flat_map code edges)
each_draws code draws [] short = draws_none
each_draws code draws (edge ∷ edges) short = and (draws edge short.0) (each_draws code draws edges short.1)

polygon_draws : {A : Type 0} (polygon : Polygon A) → Draws (polygon_code polygon)
polygon_draws polygon = and (each_draws polygon_edge_code polygon_edge_draws (edges_of_polygon polygon) (polygon_short polygon)) inside_draws

polygons_draw : {A : Type 0} (polygons : List (Polygon A)) → Draws (flat_map polygon_code polygons)
polygons_draw [] = draws_none
polygons_draw (polygon ∷ polygons) = and (polygon_draws polygon) (polygons_draw polygons)

-- a box

-- comparisons of a register with numbers
abbrev SkipsBy : Register → Type 0
SkipsBy register = (comparison : Comparison) (number : ℤ) → Skips (compare_number comparison register number)

outside_draws : (bounds : Bounds) (longitude latitude : Register) (part : List Insn) → SkipsBy longitude → SkipsBy latitude → Draws part
    → Draws (unless_outside bounds longitude latitude part)
outside_draws bounds longitude latitude part by_longitude by_latitude draws =
    draws_unless _ _ (by_longitude Less (rounded_up bounds.west))
    (draws_unless _ _ (by_longitude Greater bounds.east.millionths)
    (draws_unless _ _ (by_latitude Less (rounded_up bounds.south))
    (draws_unless _ _ (by_latitude Greater bounds.north.millionths) draws)))

start_in_draws : (bounds : Bounds) (part : List Insn) → Draws part → Draws (unless_outside bounds from_start_longitude from_start_latitude part)
start_in_draws bounds part =
    outside_draws bounds from_start_longitude from_start_latitude part insns.start_longitude_skips insns.start_latitude_skips

end_in_draws : (bounds : Bounds) (part : List Insn) → Draws part → Draws (unless_outside bounds from_end_longitude from_end_latitude part)
end_in_draws bounds part =
    outside_draws bounds from_end_longitude from_end_latitude part insns.end_longitude_skips insns.end_latitude_skips

-- the ends that are read lie in a box
pub within_draws : (extent : Extent) (bounds : Bounds) → Draws (within_code extent bounds)
within_draws Whole bounds = start_in_draws bounds _ (end_in_draws bounds marks_met marks_met_draws)
within_draws Start bounds = start_in_draws bounds marks_met marks_met_draws

shift_draws : (rounding : Rounding) → Draws (wide_load into_second (rounding_shift rounding) ∷ [])
shift_draws Down = insns.loads_second (rounding_shift Down) (lit< tt)
shift_draws Up = insns.loads_second (rounding_shift Up) (lit< tt)

rounds_draw : (rounding : Rounding) → Draws (round_first rounding)
rounds_draw rounding =
    on (shift_draws rounding)
    (on insns.adds_second_to_first
    (on (insns.divides_first (pos 1000000000) (small 1000000000 (omega arith)))
    (on (insns.lowers_first (pos 2000000000) (small 2000000000 (omega arith)))
    (insns.lowers_first (pos 2000000000) (small 2000000000 (omega arith))))))

adds_draw : (point : Point) → IsNear point → Draws (add_across point)
adds_draw point near =
    on insns.copies_end_longitude_to_second
    (on insns.subtracts_start_longitude_from_second
    (on (insns.multiplies_second point.latitude (near_fits point near).1)
    (on insns.adds_second_to_first
    (and northward_draws (on (insns.multiplies_second point.longitude (near_fits point near).0) insns.subtracts_second_from_first)))))

corner_draws : (rounding : Rounding) (corner : Corner) → Draws (corner_across rounding corner)
corner_draws rounding corner = by_rests (corner.longitude.rest == 0 && corner.latitude.rest == 0)
  where
    by_rests : (whole : Bool) → Draws (if whole then point_across (whole_point corner)
        else point_across (rest_point corner) ++ (round_first rounding ++ add_across (whole_point corner)))
    by_rests true = point_across_draws (whole_point corner) (whole_near corner)
    by_rests false =
        and (point_across_draws (rest_point corner) (rest_near corner)) (and (rounds_draw rounding) (adds_draw (whole_point corner) (whole_near corner)))

corners_draw : (rounding : Rounding) (edge : Rectangle) → Draws (corners_across rounding edge)
corners_draw rounding edge = and (corner_draws rounding (southwest edge)) (on insns.copies_first_to_side (corner_draws rounding (northeast edge)))

bounds_edge_draws : (edge : Rectangle) → Draws (bounds_edge_code edge)
bounds_edge_draws edge =
    and (corners_draw Up edge)
    (draws_unless_both (compare Greater from_side from_result) _ _ (insns.side_result_skips LessOrEqual) (insns.first_result_skips Greater)
    (and (corners_draw Down edge)
    (draws_unless_both (compare Less from_side from_result) _ _ (insns.side_result_skips GreaterOrEqual) (insns.first_result_skips Less)
    (beyond_draws (inner_limits edge) marks_met marks_met_draws))))

bounds_edges_draw : (edges : List Rectangle) → Draws (flat_map bounds_edge_code edges)
bounds_edges_draw [] = draws_none
bounds_edges_draw (edge ∷ edges) = and (bounds_edge_draws edge) (bounds_edges_draw edges)

pub shape_draws : {A : Type 0} (shape : Shape A) → Draws (shape_code shape)
shape_draws (shape.Point vertex) = edge_draws (edge_of vertex vertex) (edge_short vertex vertex)
shape_draws (shape.Line vertices) = each_draws edge_code edge_draws (edges_through vertices.items) (through_short vertices.items)
shape_draws (shape.Bounds bounds) =
    and (start_in_draws bounds marks_met marks_met_draws)
    (and (end_in_draws bounds marks_met marks_met_draws) (bounds_edges_draw (rectangles_of bounds)))
shape_draws (shape.Polygons several) = polygons_draw several.polygons.items
