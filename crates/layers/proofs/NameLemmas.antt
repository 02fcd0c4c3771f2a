-- The names of columns need no quotes and no escapes, none has a line feed, and none has more than eleven bytes.
use Rattle.std.proofs.Common.{◌≡◌, ◌≤◌, ◌==◌, not, true, length, lit≤, refl}
use Rattle.std.specs.List.{list_all}
use Rattle.cql2.specs.Column.{column_name}
use Rattle.cql2.specs.declared.column.Column.{Column as AColumn}
use Rattle.cql2.specs.declared.column.Column.TheVariants.{Numeric, Text}
use Rattle.cql2.specs.declared.column.CoordinateColumn.TheVariants.{Frlong}
use Rattle.cql2.specs.declared.column.NumberColumn.TheVariants.{Tlid}
use Rattle.cql2.specs.declared.column.NumericColumn.TheVariants.{Number, Coordinate}
use Rattle.cql2.specs.declared.column.TextColumn.TheVariants.{Rt}
use Rattle.csv.specs.Writing.{default_writer, field_text}
use Rattle.json.specs.Print.{escape, escape_byte}

pub field_text-column_name : (column : AColumn) → field_text default_writer (column_name column) ≡ column_name column
field_text-column_name (Numeric (Number Tlid)) = refl
field_text-column_name (Numeric (Coordinate Frlong)) = refl
field_text-column_name (Text Rt) = refl
field_text-column_name column = refl

pub name_short : (column : AColumn) → length (column_name column) ≤ 11
name_short (Numeric (Number Tlid)) = lit≤ tt
name_short (Numeric (Coordinate Frlong)) = lit≤ tt
name_short (Text Rt) = lit≤ tt
name_short column = lit≤ tt

pub escape-column_name : (column : AColumn) → escape (column_name column) ≡ column_name column
unfolding escape_byte
escape-column_name (Numeric (Number Tlid)) = refl
escape-column_name (Numeric (Coordinate Frlong)) = refl
escape-column_name (Text Rt) = refl
escape-column_name column = refl

pub flat-column_name : (column : AColumn) → list_all (λ b. not (b == 10)) (column_name column) ≡ true
flat-column_name (Numeric (Number Tlid)) = refl
flat-column_name (Numeric (Coordinate Frlong)) = refl
flat-column_name (Text Rt) = refl
flat-column_name column = refl
