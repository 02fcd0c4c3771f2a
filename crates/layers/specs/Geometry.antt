-- The line of a segment (TIGER/Line 2006, record types 1 and 2).
use Rattle.std.specs.Prelude.{ℕ, List, [], ◌∷◌, ◌++◌, Option, None, option_and_then, option_map}
use Rattle.std.specs.List.{flat_map}
use Rattle.layers.specs.declared.ends.Ends.{Ends}
use Rattle.layers.specs.declared.geometry.Geometry.{Geometry}
use Rattle.layers.specs.declared.geometry.Geometry.TheVariants as geometry
use Rattle.tl_fields.specs.Coordinate.{coordinate_of}
use Rattle.tl_records.specs.Layout.{field_at}
use Rattle.tl_records.specs.declared.layout.Places.{Places}
use Rattle.tl_records.specs.declared.layout.TheConstants.Type1 as type1
use Rattle.tl_segments.specs.Shape.{IsPoint, ShapePartParts}
use Rattle.tl_segments.specs.declared.shape.Point.{Point}

-- the point whose coordinates are in these columns, if both are there
abbrev pub point_at : Places → Places → List ℕ → Option Point
point_at longitude latitude line =
    option_and_then (λ x. option_map (λ y. record { longitude = x; latitude = y }) (coordinate_of (field_at latitude line)))
    (coordinate_of (field_at longitude line))

-- the start and the end, if both have coordinates
abbrev pub ends_of : List ℕ → Option Ends
ends_of line =
    option_and_then (λ start. option_map (λ end. record { start = start; end = end }) (point_at type1.TOLONG type1.TOLAT line))
    (point_at type1.FRLONG type1.FRLAT line)

-- both ends are points
pub record AreEnds (ends : Ends) : Type 0 where
  pub start : IsPoint ends.start
  pub end : IsPoint ends.end

-- the points between the start and the end
abbrev pub points_of : List ShapePartParts → List Point
points_of shape = flat_map (λ part. part.points) shape

abbrev pub inner_parts : Geometry → List ShapePartParts → List ShapePartParts
inner_parts geometry.None shape = []
inner_parts geometry.Line shape = []
inner_parts geometry.Shape shape = shape

-- from the start to the end
abbrev pub line_with : List Point → Ends → List Point
line_with points ends = ends.start ∷ points ++ ends.end ∷ []

-- the ends of the line, if one is wanted
abbrev pub ends_for : Geometry → List ℕ → Option Ends
ends_for geometry.None line = None
ends_for geometry.Line line = ends_of line
ends_for geometry.Shape line = ends_of line

-- the points of the line, if one is wanted and both ends have coordinates
abbrev pub line_of : Geometry → List ℕ → List ShapePartParts → Option (List Point)
line_of geometry line shape = option_map (line_with (points_of (inner_parts geometry shape))) (ends_for geometry line)
