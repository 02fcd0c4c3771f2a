-- The geometries of GeoJSON (RFC 7946), and their texts in CQL2 (21-065r2, annex B).
use Rattle.std.specs.Prelude.{ℕ, List, codes, bytes_eq, if◌then◌else◌, Option, Some, None}
use Rattle.cql2_json.specs.declared.form.Form.{Form}
use Rattle.cql2_json.specs.declared.form.Form.TheVariants as form
use Rattle.cql2_json.specs.declared.geometry_type.GeometryType.{GeometryType}
use Rattle.cql2_json.specs.declared.geometry_type.GeometryType.TheVariants.{Point, LineString, Polygon, MultiPoint, MultiLineString, MultiPolygon}

abbrev pub geometry_type_of_name : List ℕ → Option GeometryType
geometry_type_of_name name =
    if bytes_eq name (codes "Point") then Some Point
    else if bytes_eq name (codes "LineString") then Some LineString
    else if bytes_eq name (codes "Polygon") then Some Polygon
    else if bytes_eq name (codes "MultiPoint") then Some MultiPoint
    else if bytes_eq name (codes "MultiLineString") then Some MultiLineString
    else if bytes_eq name (codes "MultiPolygon") then Some MultiPolygon
    else None

abbrev pub geometry_tag : GeometryType → List ℕ
geometry_tag Point = codes "POINT"
geometry_tag LineString = codes "LINESTRING"
geometry_tag Polygon = codes "POLYGON"
geometry_tag MultiPoint = codes "MULTIPOINT"
geometry_tag MultiLineString = codes "MULTILINESTRING"
geometry_tag MultiPolygon = codes "MULTIPOLYGON"

abbrev pub coordinates_form : GeometryType → Form
coordinates_form Point = form.Point
coordinates_form LineString = form.Line
coordinates_form Polygon = form.Polygon
coordinates_form MultiPoint = form.MultiPoint
coordinates_form MultiLineString = form.MultiLine
coordinates_form MultiPolygon = form.MultiPolygon
