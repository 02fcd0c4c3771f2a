-- The contents of the tables of names.
use Rattle.std.proofs.Common.{◌≡◌, Some, None, refl}
use Rattle.cql2.specs.Column.{column_name}
use Rattle.cql2.specs.declared.column.Column.{Column as AColumn}
use Rattle.cql2.specs.declared.column.Column.TheVariants.{Numeric, Text}
use Rattle.cql2.specs.declared.column.CoordinateColumn.TheVariants.{Frlong}
use Rattle.cql2.specs.declared.column.NumberColumn.TheVariants.{Tlid}
use Rattle.cql2.specs.declared.column.NumericColumn.TheVariants.{Number, Coordinate}
use Rattle.cql2.specs.declared.column.TextColumn.TheVariants.{Rt}
use Rattle.cql2_tokens.specs.Name.{column_named, keyword_named, keyword_text}
use Rattle.cql2_tokens.specs.declared.token.FunctionName.TheVariants as function
use Rattle.cql2_tokens.specs.declared.token.Keyword.{Keyword}
use Rattle.cql2_tokens.specs.declared.token.Keyword.TheVariants.{And, Function, Shape}
use Rattle.cql2_tokens.specs.declared.token.ShapeTag.TheVariants as shape

pub column-found : (column : AColumn) → column_named (column_name column) ≡ Some column
column-found (Numeric (Number Tlid)) = refl
column-found (Numeric (Coordinate Frlong)) = refl
column-found (Text Rt) = refl
column-found column = refl

pub column-no_keyword : (column : AColumn) → keyword_named (column_name column) ≡ None
column-no_keyword (Numeric (Number Tlid)) = refl
column-no_keyword (Numeric (Coordinate Frlong)) = refl
column-no_keyword (Text Rt) = refl
column-no_keyword column = refl

pub keyword-found : (keyword : Keyword) → keyword_named (keyword_text keyword) ≡ Some keyword
keyword-found And = refl
keyword-found (Function function.HasNumber) = refl
keyword-found (Shape shape.Point) = refl
keyword-found keyword = refl
