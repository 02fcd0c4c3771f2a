-- Tests of numeric columns.
use Rattle.std.specs.Prelude.{ℤ, pos}
use Rattle.cql2.specs.declared.column.NumericColumn.{NumericColumn}
use Rattle.cql2.specs.declared.column.NumericColumn.TheVariants as column
use Rattle.cql2.specs.declared.filter.Comparison.{Comparison}
use Rattle.cql2.specs.declared.filter.Comparison.TheVariants.{NotEqual}
use Rattle.cql2_code.specs.Question.{Question, Holds}
use Rattle.cql2_code.specs.declared.question.Subject.{Subject}
use Rattle.cql2_code.specs.declared.question.Subject.TheVariants.{Number, HasNumber, Coordinate}

abbrev pub test : Subject → Comparison → ℤ → Question
test subject comparison operand = Holds (record { subject = subject; comparison = comparison; operand = operand })

-- the number of a column; 0 if it has none
abbrev pub number_of : NumericColumn → Subject
number_of (column.Number field) = Number field
number_of (column.Coordinate place) = Coordinate place

-- a column has a number
abbrev pub has_value : NumericColumn → Question
has_value (column.Number field) = test (HasNumber field) NotEqual (pos 0)
has_value (column.Coordinate place) = test (Coordinate place) NotEqual (pos 0)
