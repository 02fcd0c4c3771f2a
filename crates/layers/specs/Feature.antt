-- Lines of GeoJSON: each is a feature (RFC 7946, section 3.2), as a JSON text (RFC 8259) that is terminated by LF.
use Rattle.std.specs.Prelude.{ℕ, ◌^◌, ◌<◌, List, All, [], ◌∷◌, ◌++◌, codes, decimal, Option, Some, None}
use Rattle.std.specs.List.{flat_map}
use Rattle.cql2.specs.Column.{column_name}
use Rattle.cql2.specs.declared.column.Column.{Column as AColumn}
use Rattle.numerals.specs.Degrees.{degrees}
use Rattle.layers.specs.Geometry.{line_of}
use Rattle.layers.specs.Layout.{LayoutParts, SelectedParts}
use Rattle.layers.specs.Value.{ValueParts, missing, text, number, value_of}
use Rattle.json.specs.Json as json
use Rattle.json.specs.Print.{print, quoted}
use Rattle.json.specs.Tree.{json_tokens}
use Rattle.tl_segments.specs.Segment.{SegmentParts}
use Rattle.tl_segments.specs.Shape.{IsPoint, ShapePartParts}
use Rattle.tl_segments.specs.declared.shape.Point.{Point}

-- a missing value is null
abbrev pub property : ValueParts → json.Json
property missing = json.null
property (text bytes) = json.string bytes
property (number bytes) = json.number bytes

abbrev pub properties : List AColumn → List ℕ → json.Members
properties [] line = json.no_members
properties (column ∷ columns) line = json.member (column_name column) (property (value_of column line)) (properties columns line)

-- longitude, then latitude (RFC 7946, section 3.1.1)
abbrev pub position : Point → json.Json
position point = json.array (json.item (json.number (degrees point.longitude)) (json.item (json.number (degrees point.latitude)) json.no_items))

abbrev pub positions : List Point → json.Items
positions [] = json.no_items
positions (point ∷ points) = json.item (position point) (positions points)

-- a LineString (RFC 7946, section 3.1.4), or null if there is no line
abbrev pub geometry_value : Option (List Point) → json.Json
geometry_value None = json.null
geometry_value (Some points) = json.object (json.member (codes "type") (json.string (codes "LineString"))
    (json.member (codes "coordinates") (json.array (positions points)) json.no_members))

abbrev pub feature : LayoutParts → ℕ → SegmentParts → List ShapePartParts → json.Json
feature layout score segment shape = json.object (json.member (codes "type") (json.string (codes "Feature"))
    (json.member (codes "properties") (json.object (json.member (codes "score") (json.number (decimal score)) (properties layout.columns segment.bytes)))
    (json.member (codes "geometry") (geometry_value (line_of layout.geometry segment.bytes shape)) json.no_members)))

-- a feature as a JSON text without spaces, and its line
abbrev pub feature_text : LayoutParts → ℕ → SegmentParts → List ShapePartParts → List ℕ
feature_text layout score segment shape = print (json_tokens (feature layout score segment shape))

abbrev pub feature_line : LayoutParts → ℕ → SegmentParts → List ShapePartParts → List ℕ
feature_line layout score segment shape = feature_text layout score segment shape ++ codes "\n"

-- the lines of selected segments
abbrev pub features_text : LayoutParts → List SelectedParts → List ℕ
features_text layout selected = flat_map (λ one. feature_line layout one.score one.segment one.shape) selected

-- the score has 64 bits, and the points of the shape have at most nine digits
pub record IsWritable (one : SelectedParts) : Type 0 where
  pub score : one.score < 2 ^ 64
  pub shape : All (λ part. All IsPoint part.points) one.shape

-- the pieces in which a feature is written: what comes before its line, and the end of a feature without one

abbrev pub value_text : ValueParts → List ℕ
value_text missing = codes "null"
value_text (text bytes) = quoted bytes
value_text (number bytes) = bytes

abbrev pub member_text : AColumn → List ℕ → List ℕ
member_text column line = codes ",\"" ++ column_name column ++ codes "\":" ++ value_text (value_of column line)

abbrev pub feature_start : ℕ → List AColumn → List ℕ → List ℕ
feature_start score columns line =
    codes "{\"type\":\"Feature\",\"properties\":{\"score\":" ++ decimal score ++ flat_map (λ column. member_text column line) columns

abbrev pub end_without_line : List ℕ
end_without_line = codes "},\"geometry\":null}\n"
