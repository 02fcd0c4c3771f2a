-- The columns that a filter can name, and their values (TIGER/Line 2006, record type 1).
use Rattle.std.specs.Prelude.{ℕ, ℤ, pos, Bool, true, false, List, codes, reverse, Option, Some, None, option_map, if◌then◌else◌}
use Rattle.std.specs.Ordering.{int_eq}
use Rattle.tl_fields.specs.Coordinate.{coordinate_of}
use Rattle.tl_fields.specs.Number.{is_blank, number_of, trim, without_blanks_before}
use Rattle.tl_records.specs.Layout.{field_at, places}
use Rattle.tl_records.specs.declared.layout.Places.{Places}
use Rattle.tl_records.specs.declared.layout.TheConstants.Type1 as type1
use Rattle.cql2.specs.declared.column.Column.{Column as AColumn}
use Rattle.cql2.specs.declared.column.Column.TheVariants.{Numeric, Text}
use Rattle.cql2.specs.declared.column.CoordinateColumn.{CoordinateColumn}
use Rattle.cql2.specs.declared.column.CoordinateColumn.TheVariants as coordinate
use Rattle.cql2.specs.declared.column.NumberColumn.{NumberColumn}
use Rattle.cql2.specs.declared.column.NumberColumn.TheVariants as number
use Rattle.cql2.specs.declared.column.NumericColumn.{NumericColumn}
use Rattle.cql2.specs.declared.column.NumericColumn.TheVariants.{Number, Coordinate}
use Rattle.cql2.specs.declared.column.TextColumn.{TextColumn}
use Rattle.cql2.specs.declared.column.TextColumn.TheVariants as text

-- the names of columns, and the positions of their fields

abbrev pub number_row : NumberColumn → List ℕ × Places
number_row number.Tlid = (codes "TLID", type1.TLID)
number_row number.Fraddl = (codes "FRADDL", type1.FRADDL)
number_row number.Toaddl = (codes "TOADDL", type1.TOADDL)
number_row number.Fraddr = (codes "FRADDR", type1.FRADDR)
number_row number.Toaddr = (codes "TOADDR", type1.TOADDR)
number_row number.Zipl = (codes "ZIPL", type1.ZIPL)
number_row number.Zipr = (codes "ZIPR", type1.ZIPR)
number_row number.Statel = (codes "STATEL", type1.STATEL)
number_row number.Stater = (codes "STATER", type1.STATER)
number_row number.Countyl = (codes "COUNTYL", type1.COUNTYL)
number_row number.Countyr = (codes "COUNTYR", type1.COUNTYR)
number_row number.Placel = (codes "PLACEL", type1.PLACEL)
number_row number.Placer = (codes "PLACER", type1.PLACER)
number_row number.Tractl = (codes "TRACTL", type1.TRACTL)
number_row number.Tractr = (codes "TRACTR", type1.TRACTR)
number_row number.Blockl = (codes "BLOCKL", type1.BLOCKL)
number_row number.Blockr = (codes "BLOCKR", type1.BLOCKR)

abbrev pub coordinate_row : CoordinateColumn → List ℕ × Places
coordinate_row coordinate.Frlong = (codes "FRLONG", type1.FRLONG)
coordinate_row coordinate.Frlat = (codes "FRLAT", type1.FRLAT)
coordinate_row coordinate.Tolong = (codes "TOLONG", type1.TOLONG)
coordinate_row coordinate.Tolat = (codes "TOLAT", type1.TOLAT)

abbrev pub text_row : TextColumn → List ℕ × Places
text_row text.Rt = (codes "RT", type1.RT)
text_row text.Version = (codes "VERSION", type1.VERSION)
text_row text.Side1 = (codes "SIDE1", type1.SIDE1)
text_row text.Source = (codes "SOURCE", type1.SOURCE)
text_row text.Fedirp = (codes "FEDIRP", type1.FEDIRP)
text_row text.Fename = (codes "FENAME", type1.FENAME)
text_row text.Fetype = (codes "FETYPE", type1.FETYPE)
text_row text.Fedirs = (codes "FEDIRS", type1.FEDIRS)
text_row text.Cfcc = (codes "CFCC", type1.CFCC)
text_row text.FraddlText = (codes "FRADDL_TEXT", type1.FRADDL)
text_row text.ToaddlText = (codes "TOADDL_TEXT", type1.TOADDL)
text_row text.FraddrText = (codes "FRADDR_TEXT", type1.FRADDR)
text_row text.ToaddrText = (codes "TOADDR_TEXT", type1.TOADDR)
text_row text.Friaddl = (codes "FRIADDL", places 103 103)
text_row text.Toiaddl = (codes "TOIADDL", places 104 104)
text_row text.Friaddr = (codes "FRIADDR", places 105 105)
text_row text.Toiaddr = (codes "TOIADDR", places 106 106)
text_row text.Cousubl = (codes "COUSUBL", type1.COUSUBL)
text_row text.Cousubr = (codes "COUSUBR", type1.COUSUBR)

abbrev pub column_row : AColumn → List ℕ × Places
column_row (Numeric (Number column)) = number_row column
column_row (Numeric (Coordinate column)) = coordinate_row column
column_row (Text column) = text_row column

abbrev pub column_name : AColumn → List ℕ
column_name column = (column_row column).0

abbrev pub places_of : AColumn → Places
places_of column = (column_row column).1

abbrev pub number_places : NumberColumn → Places
number_places column = (number_row column).1

abbrev pub coordinate_places : CoordinateColumn → Places
coordinate_places column = (coordinate_row column).1

abbrev pub text_places : TextColumn → Places
text_places column = (text_row column).1

-- a coordinate of 0 counts as missing: the files have no place on the equator or the prime meridian
abbrev pub unless_zero : Option ℤ → Option ℤ
unless_zero None = None
unless_zero (Some millionths) = if int_eq millionths (pos 0) then None else Some millionths

-- the value of a numeric column in a record; none, that is NULL, if its field has no number
abbrev pub numeric_value : NumericColumn → List ℕ → Option ℤ
numeric_value (Number column) line = option_map pos (number_of (field_at (number_places column) line))
numeric_value (Coordinate column) line = unless_zero (coordinate_of (field_at (coordinate_places column) line))

-- the bytes without trailing blanks
abbrev pub trim_end : List ℕ → List ℕ
trim_end bytes = reverse (without_blanks_before (reverse bytes))

-- the fields of house numbers are right-justified, all others left-justified
abbrev pub is_right_justified : TextColumn → Bool
is_right_justified text.FraddlText = true
is_right_justified text.ToaddlText = true
is_right_justified text.FraddrText = true
is_right_justified text.ToaddrText = true
is_right_justified column = false

-- the text in a column's field: without the blanks that fill it up
abbrev pub text_in : TextColumn → List ℕ → List ℕ
text_in column field = if is_right_justified column then trim field else trim_end field

-- the value of a text column; none, that is NULL, if its field is blank
abbrev pub text_value : TextColumn → List ℕ → Option (List ℕ)
text_value column line =
    let field = field_at (text_places column) line in if is_blank field then None else Some (text_in column field)
