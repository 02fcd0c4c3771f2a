use Rattle.std.proofs.Common.{◌≡◌, ◌≤◌, map, length, take, drop}
use Rattle.std.specs.List.{IsDistinct}
use Rattle.cql2.specs.declared.column.TheConstants.{MAX_COLUMNS}
use Rattle.layers.specs.Columns.{columns_after, columns_named, is_same}
use Rattle.layers.proofs.columns.Columns.named.Given as goal

abbrev pub invariant-loop-count : goal.invariant-loop-count
invariant-loop-count l = record {
  length : length l.columns ≡ MAX_COLUMNS;
  few : l.count ≤ MAX_COLUMNS;
  so_far : columns_after (take l.count l.columns) (drop l.count (map (λ name. name.now) l.names)) ≡ columns_named (map (λ name. name.now) l.fn.names);
  distinct : IsDistinct is_same (take l.count l.columns);
}
