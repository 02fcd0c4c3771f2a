-- Columns, chosen by their names.
use Rattle.std.specs.Prelude.{ℕ, Bool, List, [], ◌∷◌, ◌++◌, length, take, if◌then◌else◌, Option, Some, None, Result, Ok, Err}
use Rattle.std.specs.List.{list_any}
use Rattle.std.specs.Str.{bytes_eq}
use Rattle.cql2.specs.Column.{column_name}
use Rattle.cql2.specs.declared.column.Column.{Column}
use Rattle.cql2.specs.declared.column.TheConstants.{COLUMNS}
use Rattle.cql2_tokens.specs.Name.{column_named}
use Rattle.layers.specs.declared.columns.TheConstants.{USUAL_COUNT}
use Rattle.layers.specs.declared.columns_fault.ColumnsFault.{ColumnsFault}
use Rattle.layers.specs.declared.columns_fault.ColumnsFault.TheVariants.{Empty, Unknown, Repeated}

-- both columns have the same name
unfoldable pub is_same : Column → Column → Bool
is_same column other = bytes_eq (column_name column) (column_name other)

-- the columns of a table for which no columns are named
abbrev pub usual_columns : List Column
usual_columns = take USUAL_COUNT COLUMNS

-- columns and one more, which must be known and must not be among them; a fault has the index of its name
abbrev pub with_column : List Column → Option Column → Result (List Column) ColumnsFault
with_column before None = Err (Unknown (length before))
with_column before (Some column) = if list_any (is_same column) before then Err (Repeated (length before)) else Ok (before ++ column ∷ [])

abbrev pub unless_fault : (List Column → Result (List Column) ColumnsFault) → Result (List Column) ColumnsFault → Result (List Column) ColumnsFault
unless_fault more (Ok columns) = more columns
unless_fault more (Err fault) = Err fault

-- columns and those of the names that follow
abbrev pub columns_after : List Column → List (List ℕ) → Result (List Column) ColumnsFault
columns_after before [] = Ok before
columns_after before (name ∷ names) = unless_fault (λ columns. columns_after columns names) (with_column before (column_named name))

-- the columns of names, or the first fault
abbrev pub columns_named : List (List ℕ) → Result (List Column) ColumnsFault
columns_named [] = Err Empty
columns_named (name ∷ names) = columns_after [] (name ∷ names)
