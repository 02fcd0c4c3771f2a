-- Spatial literals in terms of their tokens (CQL2, 21-065r2, annex B: spatialInstance).
use Rattle.std.specs.Prelude.{◌≡◌, ℕ, ◌≤◌, ◌+◌, ℤ, ◌≤ℤ◌, List, [], ◌∷◌, ◌++◌, length, map, Ok}
use Rattle.cql2.specs.Geometry.{Point as APoint, femtodegrees, point_of}
use Rattle.cql2.specs.declared.geometry.Bounds.{Bounds as ABounds}
use Rattle.cql2.specs.declared.geometry.Polygon.{Polygon}
use Rattle.cql2.specs.declared.geometry.Polygons.{Polygons as SomePolygons}
use Rattle.cql2.specs.declared.geometry.Ring.{Ring}
use Rattle.cql2.specs.declared.geometry.Shape.{Shape}
use Rattle.cql2.specs.declared.geometry.Shape.TheVariants as shape
use Rattle.cql2.specs.declared.geometry.Vertex.{Vertex}
use Rattle.cql2_text.specs.Number.{coordinate_of}
use Rattle.cql2_text.specs.Numeral.{IsNumber, IsNumeral}
use Rattle.cql2_text.specs.declared.shape.TheConstants.{MAX_VERTICES}
use Rattle.cql2_text.specs.declared.unit.Unit.TheVariants.{Femtodegrees}
use Rattle.cql2_tokens.specs.declared.token.Keyword.TheVariants as word
use Rattle.cql2_tokens.specs.declared.token.Numeral.{Numeral}
use Rattle.cql2_tokens.specs.declared.token.ShapeTag.{ShapeTag}
use Rattle.cql2_tokens.specs.declared.token.ShapeTag.TheVariants as tag
use Rattle.cql2_tokens.specs.declared.token.Token.{Token}
use Rattle.cql2_tokens.specs.declared.token.Token.TheVariants.{Keyword, Open, Close, Comma}

-- the bounds of a box, in femtodegrees
pub record Box : Type 0 where
  pub west : ℤ
  pub south : ℤ
  pub east : ℤ
  pub north : ℤ

abbrev pub box_of : ABounds → Box
box_of bounds =
    record {
      west = femtodegrees bounds.west;
      south = femtodegrees bounds.south;
      east = femtodegrees bounds.east;
      north = femtodegrees bounds.north;
    }

-- the content of a shape, regardless of where its parts are in memory
pub data ShapeContent : Type 0 where
  Point : APoint → ShapeContent
  Line : List APoint → ShapeContent
  Bounds : Box → ShapeContent
  Polygons : List (List (List APoint)) → ShapeContent

abbrev pub points_of : List Vertex → List APoint
points_of vertices = map point_of vertices

abbrev pub points_of_ring : {A : Type 0} → Ring A → List APoint
points_of_ring ring = points_of ring.vertices.items

abbrev pub rings_of : {A : Type 0} → Polygon A → List (List APoint)
rings_of polygon = map points_of_ring polygon.rings.items

abbrev pub polygons_of : {A : Type 0} → SomePolygons A → List (List (List APoint))
polygons_of several = map rings_of several.polygons.items

abbrev pub shape_content : {A : Type 0} → Shape A → ShapeContent
shape_content (shape.Point vertex) = Point (point_of vertex)
shape_content (shape.Line vertices) = Line (points_of vertices.items)
shape_content (shape.Bounds bounds) = Bounds (box_of bounds)
shape_content (shape.Polygons several) = Polygons (polygons_of several)

abbrev pub vertices_of_polygon : List (List APoint) → ℕ
vertices_of_polygon [] = 0
vertices_of_polygon (ring ∷ rings) = length ring + vertices_of_polygon rings

abbrev pub vertices_of_polygons : List (List (List APoint)) → ℕ
vertices_of_polygons [] = 0
vertices_of_polygons (polygon ∷ polygons) = vertices_of_polygon polygon + vertices_of_polygons polygons

-- the number of vertices; a ring's closing position is none
abbrev pub vertices_of : ShapeContent → ℕ
vertices_of (Point point) = 1
vertices_of (Line points) = length points
vertices_of (Bounds box) = 2
vertices_of (Polygons polygons) = vertices_of_polygons polygons

-- Productions

-- something in parentheses
pub record InParentheses {T : Type 0} (Inner : List Token → List Token → T → Type 0) (words rest : List Token) (content : T) : Type 0 where
  pub inner : List Token
  pub opened : words ≡ Open ∷ inner
  pub inside : Inner inner (Close ∷ rest) content

-- one item, or several with commas between them
pub data AreItems {T : Type 0} (Item : List Token → List Token → T → Type 0) : List Token → List Token → List T → Type 0 where
  one : {words rest : List Token} {item : T} → Item words rest item → AreItems Item words rest (item ∷ [])
  more : {words middle rest : List Token} {item : T} {items : List T} → Item words (Comma ∷ middle) item → AreItems Item middle rest items
      → AreItems Item words rest (item ∷ items)

-- numericLiteral, as degrees in a coordinate of a vertex
pub record IsCoordinate (words rest : List Token) (number : ℤ) : Type 0 where
  pub numeral : Numeral
  pub spelled : IsNumeral words rest numeral
  pub value : coordinate_of numeral ≡ Ok number

-- coordinate: a longitude and a latitude
pub record IsPosition (words rest : List Token) (point : APoint) : Type 0 where
  pub middle : List Token
  pub x : IsCoordinate words middle point.longitude
  pub y : IsCoordinate middle rest point.latitude

-- lineStringText: two positions or more
pub record IsLine (words rest : List Token) (points : List APoint) : Type 0 where
  pub positions : InParentheses (AreItems IsPosition) words rest points
  pub some : 2 ≤ length points

-- linearRingText: four positions or more, the last of which is the first; the ring has the others
pub record IsRing (words rest : List Token) (points : List APoint) : Type 0 where
  pub first : APoint
  pub others : List APoint
  pub begins : points ≡ first ∷ others
  pub positions : InParentheses (AreItems IsPosition) words rest (points ++ first ∷ [])
  pub some : 3 ≤ length points

-- polygonText and multiPolygonText
abbrev pub IsPolygon : List Token → List Token → List (List APoint) → Type 0
IsPolygon words rest rings = InParentheses (AreItems IsRing) words rest rings

abbrev pub ArePolygons : List Token → List Token → List (List (List APoint)) → Type 0
ArePolygons words rest polygons = InParentheses (AreItems IsPolygon) words rest polygons

-- a longitude and a latitude of a box, with a comma between them
pub record IsCorner (words rest : List Token) (x y : ℤ) : Type 0 where
  pub middle : List Token
  pub first : IsNumber Femtodegrees words (Comma ∷ middle) x
  pub second : IsNumber Femtodegrees middle rest y

-- bboxText without its parentheses: the southwest and the northeast corner
pub record AreCorners (words rest : List Token) (box : Box) : Type 0 where
  pub from_east : List Token
  pub southwest : IsCorner words (Comma ∷ from_east) box.west box.south
  pub northeast : IsCorner from_east rest box.east box.north

-- a box that isn't turned around
pub record IsBox (words rest : List Token) (box : Box) : Type 0 where
  pub corners : InParentheses AreCorners words rest box
  pub longitudes : box.west ≤ℤ box.east
  pub latitudes : box.south ≤ℤ box.north

-- a shape, after its tag
abbrev pub SpellsTaggedShape : ShapeTag → List Token → List Token → ShapeContent → Type 0
SpellsTaggedShape tag.Point words rest content = (point : APoint) × InParentheses IsPosition words rest point × (content ≡ Point point)
SpellsTaggedShape tag.LineString words rest content = (points : List APoint) × IsLine words rest points × (content ≡ Line points)
SpellsTaggedShape tag.Polygon words rest content =
    (rings : List (List APoint)) × IsPolygon words rest rings × (content ≡ Polygons (rings ∷ []))
SpellsTaggedShape tag.MultiPolygon words rest content =
    (polygons : List (List (List APoint))) × ArePolygons words rest polygons × (content ≡ Polygons polygons)
SpellsTaggedShape tag.Bbox words rest content = (box : Box) × IsBox words rest box × (content ≡ Bounds box)

-- a shape
pub record SpellsShape (words rest : List Token) (content : ShapeContent) : Type 0 where
  pub tag : ShapeTag
  pub inner : List Token
  pub tagged : words ≡ Keyword (word.Shape tag) ∷ inner
  pub spelled : SpellsTaggedShape tag inner rest content
  pub few : vertices_of content ≤ MAX_VERTICES
