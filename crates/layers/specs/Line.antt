-- Lines of points as text, and the pieces in which they are written.
use Rattle.std.specs.Prelude.{ℕ, List, [], ◌∷◌, ◌++◌, codes}
use Rattle.std.specs.List.{flat_map}
use Rattle.numerals.specs.Degrees.{degrees}
use Rattle.layers.specs.declared.line.Notation.{Notation}
use Rattle.layers.specs.declared.line.Notation.TheVariants.{WellKnownText, GeoJson}
use Rattle.tl_segments.specs.Shape.{ShapePartParts}
use Rattle.tl_segments.specs.declared.shape.Point.{Point}

-- the longitude, a byte, and the latitude
abbrev pub coordinates_text : ℕ → Point → List ℕ
coordinates_text between point = degrees point.longitude ++ between ∷ [] ++ degrees point.latitude

-- in Well-Known Text (OGC 06-103r4, section 7) coordinates are separated by a blank; in GeoJSON a position is an array (RFC 7946, section 3.1.1)
abbrev pub point_text : Notation → Point → List ℕ
point_text WellKnownText point = coordinates_text 32 point
point_text GeoJson point = codes "[" ++ coordinates_text 44 point ++ codes "]"

-- what is written before the first point and after the last one
abbrev pub line_start : Notation → List ℕ
line_start WellKnownText = codes ",\"LINESTRING ("
line_start GeoJson = codes "},\"geometry\":{\"type\":\"LineString\",\"coordinates\":["

abbrev pub line_end : Notation → List ℕ
line_end WellKnownText = codes ")\"\n"
line_end GeoJson = codes "]}}\n"

-- points after the first, each after a comma
abbrev pub further_points : Notation → List Point → List ℕ
further_points notation points = flat_map (λ point. codes "," ++ point_text notation point) points

-- the start of a line, and the rest of it
abbrev pub start_text : Notation → Point → List ℕ
start_text notation start = line_start notation ++ point_text notation start

abbrev pub rest_text : Notation → List ShapePartParts → Point → List ℕ
rest_text notation shape end =
    flat_map (λ part. further_points notation part.points) shape ++ (codes "," ++ point_text notation end ++ line_end notation)
