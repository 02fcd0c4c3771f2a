use Rattle.std.proofs.Common.{◌≡◌, ◌+◌, ◌*◌, ◌≤◌, length, take}
use Rattle.layers.specs.CsvTable.{columns_text}
use Rattle.layers.proofs.csv_table.push_columns.Given as goal

abbrev pub invariant-loop-column : goal.invariant-loop-column
invariant-loop-column l = record {
  so_far : l.piece.items ≡ columns_text l.score (take l.column-index l.columns) l.line;
  short : length l.piece.items ≤ 42 + 123 * l.column-index;
}
