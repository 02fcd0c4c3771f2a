-- What a reader reads of a feature.
use Rattle.std.proofs.Common.{◌≡◌, ℕ, ◌^◌, ◌<◌, ◌≤◌, ℤ, nat_abs, List, [], ◌∷◌, All, Option, Some, None, option_and_then, option_map, IfSome, decimal, refl, arith}
use Rattle.std.proofs.lemmas.List.Elements.{All-append, All-cons, All-head, All-nil, All-push, All-tail}
use Rattle.cql2.specs.Column.{coordinate_places, number_places}
use Rattle.cql2.specs.declared.column.Column.{Column as AColumn}
use Rattle.cql2.specs.declared.column.Column.TheVariants.{Numeric, Text}
use Rattle.cql2.specs.declared.column.NumberColumn.TheVariants.{Tlid}
use Rattle.cql2.specs.declared.column.NumericColumn.TheVariants.{Number, Coordinate}
use Rattle.numerals.specs.Degrees.{degrees}
use Rattle.layers.proofs.NumberLemmas.{IsNumber-degrees, coordinate_small}
use Rattle.layers.specs.Feature.{IsWritable, feature, feature_text, geometry_value, positions, properties, property}
use Rattle.layers.specs.Geometry.{AreEnds, ends_for, ends_of, inner_parts, line_of, line_with, point_at, points_of}
use Rattle.layers.specs.Layout.{LayoutParts, SelectedParts}
use Rattle.layers.specs.Value.{ValueParts, missing, text, number, number_value, text_value, value_of}
use Rattle.layers.specs.declared.ends.Ends.{Ends}
use Rattle.layers.specs.declared.geometry.Geometry.{Geometry}
use Rattle.layers.specs.declared.geometry.Geometry.TheVariants as geometry
use Rattle.json.proofs.Printed.Decimals.{IsNumber-decimal}
use Rattle.json.proofs.Printed.Trees.{document-print}
use Rattle.json.specs.Json.{document}
use Rattle.json.specs.Tree.{HasNumbers, ItemsHaveNumbers, MembersHaveNumbers, depth, items_depth, members_depth}
use Rattle.tl_fields.proofs.NumberLemmas.{number_of_lt}
use Rattle.tl_fields.specs.Coordinate.{coordinate_of}
use Rattle.tl_fields.specs.Number.{number_of}
use Rattle.tl_records.specs.Layout.{field_at}
use Rattle.tl_records.specs.declared.layout.Places.{Places}
use Rattle.tl_records.specs.declared.layout.TheConstants.Type1 as type1
use Rattle.tl_segments.specs.Shape.{IsPoint, ShapePartParts}
use Rattle.tl_segments.specs.declared.shape.Point.{Point}

-- the numbers of values

numbers-integer : (o : Option ℕ) → ((n : ℕ) → o ≡ Some n → n < 2 ^ 64) → HasNumbers (property (number_value (option_map decimal o)))
numbers-integer None small = tt
numbers-integer (Some n) small = IsNumber-decimal n (small n refl)

numbers-coordinate : (o : Option ℤ) → IfSome o (λ z. nat_abs z < 10 ^ 9) → HasNumbers (property (number_value (option_map degrees o)))
numbers-coordinate None small = tt
numbers-coordinate (Some z) small = IsNumber-degrees z small

numbers-text : (bytes : List ℕ) → HasNumbers (property (text_value bytes))
numbers-text [] = tt
numbers-text (b ∷ bytes) = tt

numbers-property : (column : AColumn) (line : List ℕ) → HasNumbers (property (value_of column line))
numbers-property (Numeric (Number Tlid)) line =
    numbers-integer (number_of (field_at (number_places Tlid) line)) (λ n is. omega (arith, number_of_lt line 6 15 n is))
numbers-property (Numeric (Number column)) line = numbers-text _
numbers-property (Numeric (Coordinate column)) line =
    numbers-coordinate (coordinate_of (field_at (coordinate_places column) line)) (coordinate_small (field_at (coordinate_places column) line))
numbers-property (Text column) line = numbers-text _

numbers-properties : (columns : List AColumn) (line : List ℕ) → MembersHaveNumbers (properties columns line)
numbers-properties [] line = tt
numbers-properties (column ∷ columns) line = (numbers-property column line, numbers-properties columns line)

numbers-positions : (points : List Point) → All IsPoint points → ItemsHaveNumbers (positions points)
numbers-positions [] all = tt
numbers-positions (point ∷ points) all =
    let first = All-head IsPoint point points all in
    ((IsNumber-degrees point.longitude first.longitude, (IsNumber-degrees point.latitude first.latitude, tt)), numbers-positions points (All-tail IsPoint point points all))

numbers-geometry : (line : Option (List Point)) → IfSome line (All IsPoint) → HasNumbers (geometry_value line)
numbers-geometry None all = tt
numbers-geometry (Some points) all = (tt, (numbers-positions points all, tt))

-- the nesting

depth-property : (value : ValueParts) → depth (property value) ≡ 0
depth-property missing = refl
depth-property (text bytes) = refl
depth-property (number bytes) = refl

depth-properties : (columns : List AColumn) (line : List ℕ) → members_depth (properties columns line) ≡ 0
depth-properties [] line = refl
depth-properties (column ∷ columns) line = rw (depth-property (value_of column line), depth-properties columns line) refl

depth-positions : (points : List Point) → items_depth (positions points) ≤ 1
depth-positions [] = omega arith
depth-positions (point ∷ points) = let rest = depth-positions points in omega arith

depth-geometry : (line : Option (List Point)) → depth (geometry_value line) ≤ 3
depth-geometry None = omega arith
depth-geometry (Some points) = let rest = depth-positions points in omega arith

-- the points of a line

points-of_shape : (shape : List ShapePartParts) → All (λ part. All IsPoint part.points) shape → All IsPoint (points_of shape)
points-of_shape [] all = All-nil IsPoint
points-of_shape (part ∷ shape) all =
    let ArePoints : ShapePartParts → Type 0 = λ part. All IsPoint part.points in
    All-append IsPoint part.points (points_of shape) (All-head ArePoints part shape all) (points-of_shape shape (All-tail ArePoints part shape all))

points-between : (which : Geometry) (shape : List ShapePartParts) → All (λ part. All IsPoint part.points) shape
    → All IsPoint (points_of (inner_parts which shape))
points-between geometry.None shape all = All-nil IsPoint
points-between geometry.Line shape all = All-nil IsPoint
points-between geometry.Shape shape all = points-of_shape shape all

point-small : (o o' : Option ℤ) → IfSome o (λ z. nat_abs z < 10 ^ 9) → IfSome o' (λ z. nat_abs z < 10 ^ 9)
    → IfSome (option_and_then (λ x. option_map (λ y. record { longitude = x; latitude = y }) o') o) IsPoint
point-small None o' small small' = tt
point-small (Some x) None small small' = tt
point-small (Some x) (Some y) small small' = record { longitude = small; latitude = small' }

point_at-small : (longitude latitude : Places) (line : List ℕ) → IfSome (point_at longitude latitude line) IsPoint
point_at-small longitude latitude line =
    point-small (coordinate_of (field_at longitude line)) (coordinate_of (field_at latitude line)) (coordinate_small (field_at longitude line))
    (coordinate_small (field_at latitude line))

ends-small : (o o' : Option Point) → IfSome o IsPoint → IfSome o' IsPoint
    → IfSome (option_and_then (λ start. option_map (λ end. record { start = start; end = end }) o') o) AreEnds
ends-small None o' small small' = tt
ends-small (Some x) None small small' = tt
ends-small (Some x) (Some y) small small' = record { start = small; end = small' }

ends_of-small : (line : List ℕ) → IfSome (ends_of line) AreEnds
ends_of-small line =
    ends-small (point_at type1.FRLONG type1.FRLAT line) (point_at type1.TOLONG type1.TOLAT line) (point_at-small type1.FRLONG type1.FRLAT line)
    (point_at-small type1.TOLONG type1.TOLAT line)

ends_for-small : (which : Geometry) (line : List ℕ) → IfSome (ends_for which line) AreEnds
ends_for-small geometry.None line = tt
ends_for-small geometry.Line line = ends_of-small line
ends_for-small geometry.Shape line = ends_of-small line

line_with-small : (o : Option Ends) (points : List Point) → IfSome o AreEnds → All IsPoint points → IfSome (option_map (line_with points) o) (All IsPoint)
line_with-small None points small all = tt
line_with-small (Some ends) points small all =
    All-push IsPoint (ends.start ∷ points) ends.end (All-cons IsPoint ends.start points small.start all) small.end

points-of_line : (which : Geometry) (line : List ℕ) (shape : List ShapePartParts) → All (λ part. All IsPoint part.points) shape
    → IfSome (line_of which line shape) (All IsPoint)
points-of_line which line shape all =
    line_with-small (ends_for which line) (points_of (inner_parts which shape)) (ends_for-small which line) (points-between which shape all)

pub document_of_feature : (layout : LayoutParts) (one : SelectedParts) → IsWritable one
    → document (feature_text layout one.score one.segment one.shape) ≡ Some (feature layout one.score one.segment one.shape)
document_of_feature layout one writable =
    let line = line_of layout.geometry one.segment.bytes one.shape in
    let nested = depth-geometry line in
    let points = numbers-geometry line (points-of_line layout.geometry one.segment.bytes one.shape writable.shape) in
    document-print (feature layout one.score one.segment one.shape) (tt, ((IsNumber-decimal one.score writable.score, numbers-properties layout.columns one.segment.bytes), (points, tt)))
    (rw (depth-properties layout.columns one.segment.bytes) (omega arith))
