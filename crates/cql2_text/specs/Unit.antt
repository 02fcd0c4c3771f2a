-- The units of numbers: coordinates are in millionths of a degree, bounds of boxes in femtodegrees, and all other numbers are whole.
use Rattle.std.specs.Prelude.{Bool, true, false, Option, Some}
use Rattle.cql2.specs.declared.column.NumericColumn.{NumericColumn}
use Rattle.cql2.specs.declared.column.NumericColumn.TheVariants.{Number, Coordinate}
use Rattle.cql2.specs.declared.expression.Operator.{Operator}
use Rattle.cql2.specs.declared.expression.Operator.TheVariants.{Add, Subtract}
use Rattle.cql2_text.specs.declared.unit.Unit.{Unit}
use Rattle.cql2_text.specs.declared.unit.Unit.TheVariants.{Whole, Degrees}

-- the unit of a comparison, by the first column in it
abbrev pub unit_of : Option NumericColumn → Unit
unit_of (Some (Coordinate column)) = Degrees
unit_of column = Whole

-- a column's numbers are in the unit; none are in femtodegrees
abbrev pub is_in : Unit → NumericColumn → Bool
is_in Whole (Number column) = true
is_in Degrees (Coordinate column) = true
is_in unit column = false

-- coordinates can only be added and subtracted
abbrev pub allows : Unit → Operator → Bool
allows Whole operator = true
allows Degrees Add = true
allows Degrees Subtract = true
allows unit operator = false
