-- Functions in terms of their tokens (CQL2, 21-065r2, annex B: function and spatialPredicate), and their content.
use Rattle.std.specs.Prelude.{◌≡◌, ℕ, List, ◌∷◌, Ok}
use Rattle.tl_segments.specs.declared.name.TheConstants.{NAME_LENGTH}
use Rattle.cql2.specs.declared.filter.Filter.{Filter}
use Rattle.cql2.specs.declared.filter.Filter.TheVariants as filter
use Rattle.cql2.specs.declared.function.Function.{Function}
use Rattle.cql2.specs.declared.function.Function.TheVariants as function
use Rattle.cql2.specs.declared.geometry.Bounds.{Bounds as ABounds}
use Rattle.cql2.specs.declared.geometry.Polygons.{Polygons as APolygons}
use Rattle.cql2.specs.declared.geometry.Shape.{Shape}
use Rattle.cql2.specs.declared.number.HouseNumber.{HouseNumber}
use Rattle.cql2.specs.declared.number.NameLimit.{NameLimit}
use Rattle.cql2.specs.declared.text.Text.{Text}
use Rattle.cql2_text.specs.Connective.{IsNot}
use Rattle.cql2_text.specs.Geometry.{Bounds, Box, IsBox, Polygons, ShapeContent, SpellsShape, box_of, polygons_of, shape_content}
use Rattle.cql2_text.specs.Number.{house_number_of, name_limit_of}
use Rattle.cql2_text.specs.Numeral.{IsNumeral}
use Rattle.cql2_text.specs.Predicate.{IsText}
use Rattle.cql2_tokens.specs.declared.token.FunctionName.{FunctionName}
use Rattle.cql2_tokens.specs.declared.token.FunctionName.TheVariants as name
use Rattle.cql2_tokens.specs.declared.token.Keyword.TheVariants as word
use Rattle.cql2_tokens.specs.declared.token.Numeral.{Numeral}
use Rattle.cql2_tokens.specs.declared.token.ShapeTag.TheVariants as tag
use Rattle.cql2_tokens.specs.declared.token.Token.{Token}
use Rattle.cql2_tokens.specs.declared.token.Token.TheVariants.{Keyword, Open, Close, Comma}

-- the content of a function, regardless of where its parts are in memory
pub data FunctionContent : Type 0 where
  HasNumber : ℕ → FunctionContent
  HasName : List ℕ → ℕ → FunctionContent
  Intersects : ShapeContent → FunctionContent
  StartsIn : ShapeContent → FunctionContent
  Within : Box → FunctionContent

abbrev pub function_content : {A : Type 0} → Function A → FunctionContent
function_content (function.HasNumber house) = HasNumber house.number
function_content (function.HasName text limit) = HasName text.bytes.items limit.number
function_content (function.Intersects shape) = Intersects (shape_content shape)
function_content (function.StartsIn several) = StartsIn (Polygons (polygons_of several))
function_content (function.StartsInBounds bounds) = StartsIn (Bounds (box_of bounds))
function_content (function.Within bounds) = Within (box_of bounds)

-- HAS_NUMBER
pub record SpellsHasNumber {A : Type 0} (words rest : List Token) (made : Filter A) : Type 0 where
  pub numeral : Numeral
  pub house : HouseNumber
  pub inner : List Token
  pub opened : words ≡ Open ∷ inner
  pub spelled : IsNumeral inner (Close ∷ rest) numeral
  pub value : house_number_of numeral ≡ Ok house.number
  pub is : made ≡ filter.Function (function.HasNumber house)

-- the number of alternate names that HAS_NAME checks
pub data SpellsLimit : List Token → List Token → NameLimit → Type 0 where
  given : {words rest : List Token} {limit : NameLimit} (numeral : Numeral) → IsNumeral words rest numeral
      → name_limit_of numeral ≡ Ok limit.number → SpellsLimit (Comma ∷ words) rest limit
  usual : {rest : List Token} {limit : NameLimit} → limit.number ≡ 63 → SpellsLimit rest rest limit

-- HAS_NAME
pub record SpellsHasName {A : Type 0} (words rest : List Token) (made : Filter A) : Type 0 where
  pub text : Text A
  pub limit : NameLimit
  pub inner : List Token
  pub after : List Token
  pub opened : words ≡ Open ∷ inner
  pub name : IsText NAME_LENGTH inner after text
  pub names : SpellsLimit after (Close ∷ rest) limit
  pub is : made ≡ filter.Function (function.HasName text limit)

-- STARTS_IN
pub data SpellsStartsIn {A : Type 0} : List Token → List Token → Filter A → Type 0 where
  in_box : {words rest : List Token} {bounds : ABounds} → SpellsShape words (Close ∷ rest) (Bounds (box_of bounds))
      → SpellsStartsIn (Open ∷ words) rest (filter.Function (function.StartsInBounds bounds))
  in_polygons : {words rest : List Token} {several : APolygons A} → SpellsShape words (Close ∷ rest) (Polygons (polygons_of several))
      → SpellsStartsIn (Open ∷ words) rest (filter.Function (function.StartsIn several))

-- the operands of a spatial predicate: the property `geometry` and a shape, or the other way round
pub data SpellsOperands : List Token → List Token → ShapeContent → Type 0 where
  geometry_first : {words rest : List Token} {content : ShapeContent} → SpellsShape words (Close ∷ rest) content
      → SpellsOperands (Open ∷ Keyword word.Geometry ∷ Comma ∷ words) rest content
  geometry_last : {words rest : List Token} {content : ShapeContent}
      → SpellsShape words (Comma ∷ Keyword word.Geometry ∷ Close ∷ rest) content → SpellsOperands (Open ∷ words) rest content

-- S_INTERSECTS
pub record SpellsIntersects {A : Type 0} (words rest : List Token) (made : Filter A) : Type 0 where
  pub shape : Shape A
  pub operands : SpellsOperands words rest (shape_content shape)
  pub is : made ≡ filter.Function (function.Intersects shape)

-- S_DISJOINT: no point in common
pub record SpellsDisjoint {A : Type 0} (words rest : List Token) (made : Filter A) : Type 0 where
  pub meets : Filter A
  pub intersects : SpellsIntersects words rest meets
  pub opposite : IsNot meets made

-- S_WITHIN, of which the second operand is a box
pub record SpellsWithin {A : Type 0} (words rest : List Token) (made : Filter A) : Type 0 where
  pub bounds : ABounds
  pub inner : List Token
  pub opened : words ≡ Open ∷ Keyword word.Geometry ∷ Comma ∷ Keyword (word.Shape tag.Bbox) ∷ inner
  pub box : IsBox inner (Close ∷ rest) (box_of bounds)
  pub is : made ≡ filter.Function (function.Within bounds)

-- a function, after its name
abbrev pub SpellsFunction : {A : Type 0} → FunctionName → List Token → List Token → Filter A → Type 0
SpellsFunction name.HasNumber words rest made = SpellsHasNumber words rest made
SpellsFunction name.HasName words rest made = SpellsHasName words rest made
SpellsFunction name.StartsIn words rest made = SpellsStartsIn words rest made
SpellsFunction name.Intersects words rest made = SpellsIntersects words rest made
SpellsFunction name.Disjoint words rest made = SpellsDisjoint words rest made
SpellsFunction name.Within words rest made = SpellsWithin words rest made
