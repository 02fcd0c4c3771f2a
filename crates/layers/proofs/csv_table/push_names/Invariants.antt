use Rattle.std.proofs.Common.{◌≡◌, ◌+◌, ◌*◌, ◌≤◌, length, take}
use Rattle.layers.specs.CsvTable.{names_text}
use Rattle.layers.proofs.csv_table.push_names.Given as goal

abbrev pub invariant-loop-column : goal.invariant-loop-column
invariant-loop-column l = record {
  so_far : l.piece.items ≡ names_text (take l.column-index l.columns);
  short : length l.piece.items ≤ 5 + 12 * l.column-index;
}
