-- Keywords and column names, in upper or lower case (TIGER/Line 2006, record type 1).
use Rattle.std.specs.Prelude.{ℕ, Bool, List, codes, Option}
use Rattle.std.specs.List.{find}
use Rattle.std.specs.Str.{str_eq_ignore_ascii_case}
use Rattle.cql2.specs.Column.{column_name}
use Rattle.cql2.specs.declared.column.Column.{Column}
use Rattle.cql2.specs.declared.column.TheConstants.{COLUMNS}
use Rattle.cql2_tokens.specs.declared.name.TheConstants.{KEYWORDS}
use Rattle.cql2_tokens.specs.declared.token.FunctionName.TheVariants as function
use Rattle.cql2_tokens.specs.declared.token.Keyword.{Keyword}
use Rattle.cql2_tokens.specs.declared.token.Keyword.TheVariants.{And, Or, Not, True, False, Is, Null, Like, Between, In, Casei, Accenti, Div}
use Rattle.cql2_tokens.specs.declared.token.Keyword.TheVariants.{Geometry, Function, Shape}
use Rattle.cql2_tokens.specs.declared.token.ShapeTag.TheVariants as shape

abbrev pub keyword_text : Keyword → List ℕ
keyword_text And = codes "AND"
keyword_text Or = codes "OR"
keyword_text Not = codes "NOT"
keyword_text True = codes "TRUE"
keyword_text False = codes "FALSE"
keyword_text Is = codes "IS"
keyword_text Null = codes "NULL"
keyword_text Like = codes "LIKE"
keyword_text Between = codes "BETWEEN"
keyword_text In = codes "IN"
keyword_text Casei = codes "CASEI"
keyword_text Accenti = codes "ACCENTI"
keyword_text Div = codes "DIV"
keyword_text Geometry = codes "GEOMETRY"
keyword_text (Function function.HasNumber) = codes "HAS_NUMBER"
keyword_text (Function function.HasName) = codes "HAS_NAME"
keyword_text (Function function.StartsIn) = codes "STARTS_IN"
keyword_text (Function function.Intersects) = codes "S_INTERSECTS"
keyword_text (Function function.Disjoint) = codes "S_DISJOINT"
keyword_text (Function function.Within) = codes "S_WITHIN"
keyword_text (Shape shape.Point) = codes "POINT"
keyword_text (Shape shape.LineString) = codes "LINESTRING"
keyword_text (Shape shape.Polygon) = codes "POLYGON"
keyword_text (Shape shape.MultiPolygon) = codes "MULTIPOLYGON"
keyword_text (Shape shape.Bbox) = codes "BBOX"

-- the keyword that a word spells, and the column of a name
abbrev pub keyword_named : List ℕ → Option Keyword
keyword_named word = find (λ keyword. str_eq_ignore_ascii_case (keyword_text keyword) word) KEYWORDS

abbrev pub column_named : List ℕ → Option Column
column_named name = find (λ column. str_eq_ignore_ascii_case (column_name column) name) COLUMNS

-- the name of the property `geometry`
abbrev pub is_geometry : List ℕ → Bool
is_geometry name = str_eq_ignore_ascii_case (keyword_text Geometry) name
