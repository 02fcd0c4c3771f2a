-- The fields of all columns are within a record, and none is wider than FENAME.
use Rattle.std.proofs.Common.{◌+◌, ◌≤◌, lit≤}
use Rattle.cql2.specs.Column.{places_of}
use Rattle.cql2.specs.declared.column.Column.{Column as AColumn}
use Rattle.cql2.specs.declared.column.Column.TheVariants.{Numeric, Text}
use Rattle.cql2.specs.declared.column.CoordinateColumn.TheVariants.{Frlong}
use Rattle.cql2.specs.declared.column.NumberColumn.TheVariants.{Tlid}
use Rattle.cql2.specs.declared.column.NumericColumn.TheVariants.{Number, Coordinate}
use Rattle.cql2.specs.declared.column.TextColumn.TheVariants.{Rt}
use Rattle.tl_records.specs.Layout.{IsWithin}

pub places_within : (column : AColumn) → IsWithin (places_of column) 228 × ((places_of column).1 + 1 ≤ (places_of column).0 + 30)
places_within (Numeric (Number Tlid)) = ((lit≤ tt, lit≤ tt, lit≤ tt), lit≤ tt)
places_within (Numeric (Coordinate Frlong)) = ((lit≤ tt, lit≤ tt, lit≤ tt), lit≤ tt)
places_within (Text Rt) = ((lit≤ tt, lit≤ tt, lit≤ tt), lit≤ tt)
places_within column = ((lit≤ tt, lit≤ tt, lit≤ tt), lit≤ tt)
