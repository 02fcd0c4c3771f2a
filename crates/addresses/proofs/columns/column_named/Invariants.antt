use Rattle.std.proofs.Common.{◌≡◌, drop}
use Rattle.std.specs.List.{position_from}
use Rattle.addresses.specs.Columns.{column_named, is_named}
use Rattle.csv.specs.Records.{fields_of}
use Rattle.addresses.proofs.columns.column_named.Given as goal

abbrev pub invariant-loop-column : goal.invariant-loop-column
invariant-loop-column l =
    column_named l.name (fields_of l.header) ≡ position_from (is_named l.name) l.column (drop l.column (fields_of l.header))
