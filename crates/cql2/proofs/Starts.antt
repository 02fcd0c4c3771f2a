-- A point lies in polygons exactly if the line from the point to itself meets them.
use Rattle.std.proofs.Common.{◌≡◌, ℤ, pos, Bool, true, false, not, List, [], ◌∷◌, refl, ap, ◌∙◌, arith}
use Rattle.std.specs.Prelude.{◌-ℤ◌, ◌*ℤ◌, ◌&&◌, ◌||◌, int_lt}
use Rattle.std.specs.List.{list_any}
use Rattle.std.specs.Ordering.{int_eq}
use Rattle.std.proofs.lemmas.Int.{ints}
use Rattle.std.proofs.Math.IntN.{zero-*ℤ}
use Rattle.cql2.specs.Geometry.{Edge, Point, edges_of_polygon, is_between, is_left, is_right, lies_beside, lies_in}
use Rattle.cql2.specs.Geometry.{lies_in_some, lies_inside, lies_on, meets, meets_edge, meets_polygon, meets_some, ranges_overlap, side}
use Rattle.cql2.specs.declared.geometry.Polygon.{Polygon}
use Rattle.cql2.specs.declared.geometry.Polygons.{Polygons}
use Rattle.cql2.specs.declared.geometry.Shape.TheVariants as shape

-- a point as a line
abbrev pub at : Point → Edge
at point = record { start = point; end = point }

-- it has no direction, so no point lies on a side of it

no_way : (a : ℤ) → a -ℤ a ≡ pos 0
no_way a = omega (arith, ints)

no_side : (point other : Point) → side (at point) other ≡ pos 0
no_side point other =
    ap (λ (z : ℤ). z *ℤ (other.latitude -ℤ point.latitude) -ℤ (point.latitude -ℤ point.latitude) *ℤ (other.longitude -ℤ point.longitude))
    (no_way point.longitude)
    ∙ ap (λ (z : ℤ). pos 0 *ℤ (other.latitude -ℤ point.latitude) -ℤ z *ℤ (other.longitude -ℤ point.longitude)) (no_way point.latitude)
    ∙ ap (λ (z : ℤ). z -ℤ pos 0 *ℤ (other.longitude -ℤ point.longitude)) (zero-*ℤ (other.latitude -ℤ point.latitude))
    ∙ ap (λ (z : ℤ). pos 0 -ℤ z) (zero-*ℤ (other.longitude -ℤ point.longitude))

-- it lies beside an edge exactly if the point isn't on the edge's line
on_line : (z : ℤ) → not ((int_lt (pos 0) z && int_lt (pos 0) z) || (int_lt z (pos 0) && int_lt z (pos 0))) ≡ int_eq z (pos 0)
on_line z = grind (arith, ints)

-- a range of one number overlaps another one exactly if the number lies in that
overlap_is : (number a b : ℤ) → ranges_overlap number number a b ≡ is_between a b number
overlap_is number a b = grind (arith, ints)

none_beside : (point : Point) (edge : Edge) → lies_beside (at point) edge ≡ false
none_beside point edge =
    ap (λ (z : ℤ). (int_lt (pos 0) z && is_left (at point) edge.end) || (int_lt z (pos 0) && is_right (at point) edge.end))
    (no_side point edge.start)

grouped : (a b c : Bool) → (a && not false && (b && c)) ≡ (a && b && c)
grouped true b c = refl
grouped false b c = refl

pub meets_at : (point : Point) (edge : Edge) → meets_edge (at point) edge ≡ lies_on edge point
meets_at point edge =
    let on : Bool = int_eq (side edge point) (pos 0) in
    let longitudes = ranges_overlap point.longitude point.longitude edge.start.longitude edge.end.longitude in
    let latitudes = ranges_overlap point.latitude point.latitude edge.start.latitude edge.end.latitude in
    ap (λ (t : Bool). t && not (lies_beside (at point) edge) && (longitudes && latitudes)) (on_line (side edge point))
    ∙ ap (λ (t : Bool). on && not t && (longitudes && latitudes)) (none_beside point edge)
    ∙ grouped on longitudes latitudes
    ∙ ap (λ (t : Bool). on && t && latitudes) (overlap_is point.longitude edge.start.longitude edge.end.longitude)
    ∙ ap (λ (t : Bool). on && is_between edge.start.longitude edge.end.longitude point.longitude && t)
    (overlap_is point.latitude edge.start.latitude edge.end.latitude)

twice : (a b : Bool) → (a || a || b) ≡ (a || b)
twice true b = refl
twice false b = refl

any_same : {T : Type 0} (good other : T → Bool) → ((item : T) → good item ≡ other item) → (items : List T)
    → list_any good items ≡ list_any other items
any_same good other same [] = refl
any_same good other same (item ∷ items) =
    ap (λ (first : Bool). first || list_any good items) (same item)
    ∙ ap (λ (rest : Bool). other item || rest) (any_same good other same items)

polygon_at : {A : Type 0} (point : Point) (polygon : Polygon A) → meets_polygon (at point) polygon ≡ lies_in point polygon
polygon_at point polygon =
    let edges = edges_of_polygon polygon in
    twice (lies_inside polygon point) (meets_some edges (at point))
    ∙ ap (λ (found : Bool). lies_inside polygon point || found)
    (any_same (meets_edge (at point)) (λ edge. lies_on edge point) (meets_at point) edges)

pub starts_in : {A : Type 0} (several : Polygons A) (point : Point) → meets (shape.Polygons several) (at point) ≡ lies_in_some several point
starts_in several point = any_same (meets_polygon (at point)) (lies_in point) (polygon_at point) several.polygons.items
