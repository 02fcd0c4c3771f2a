-- The value of a column in a record of type 1 (TIGER/Line 2006).
use Rattle.std.specs.Prelude.{ℕ, List, [], ◌∷◌, Option, Some, None, option_map, decimal, encode_utf8_all}
use Rattle.cql2.specs.Column.{places_of}
use Rattle.cql2.specs.declared.column.Column.{Column as AColumn}
use Rattle.cql2.specs.declared.column.Column.TheVariants.{Numeric, Text}
use Rattle.cql2.specs.declared.column.NumberColumn.TheVariants.{Tlid}
use Rattle.cql2.specs.declared.column.NumericColumn.TheVariants.{Number, Coordinate}
use Rattle.numerals.specs.Degrees.{degrees}
use Rattle.layers.specs.declared.value.CellValue.{CellValue}
use Rattle.layers.specs.declared.value.CellValue.TheVariants as value
use Rattle.tl_fields.specs.Coordinate.{coordinate_of}
use Rattle.tl_fields.specs.Number.{number_of, trim}
use Rattle.tl_records.specs.Layout.{field_at}

-- a value, as text
pub data ValueParts : Type 0 where
  missing : ValueParts
  text : List ℕ → ValueParts
  number : List ℕ → ValueParts

abbrev pub parts_of : CellValue → ValueParts
parts_of value.Missing = missing
parts_of (value.Text bytes) = text bytes.items
parts_of (value.Number bytes) = number bytes.items

-- a text that is Latin-1, in UTF-8; an empty one is missing
abbrev pub text_value : List ℕ → ValueParts
text_value [] = missing
text_value (first ∷ others) = text (encode_utf8_all (first ∷ others))

abbrev pub number_value : Option (List ℕ) → ValueParts
number_value None = missing
number_value (Some digits) = number digits

-- the value of a field: TLID is an integer, a coordinate is in degrees, and everything else is text without leading and trailing blanks
abbrev pub value_in : AColumn → List ℕ → ValueParts
value_in (Numeric (Number Tlid)) field = number_value (option_map decimal (number_of field))
value_in (Numeric (Number column)) field = text_value (trim field)
value_in (Numeric (Coordinate column)) field = number_value (option_map degrees (coordinate_of field))
value_in (Text column) field = text_value (trim field)

abbrev pub value_of : AColumn → List ℕ → ValueParts
value_of column line = value_in column (field_at (places_of column) line)
