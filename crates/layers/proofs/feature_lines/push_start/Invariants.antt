use Rattle.std.proofs.Common.{◌≡◌, ◌+◌, ◌*◌, ◌≤◌, length, take}
use Rattle.layers.specs.Feature.{feature_start}
use Rattle.layers.proofs.feature_lines.push_start.Given as goal

abbrev pub invariant-loop-column : goal.invariant-loop-column
invariant-loop-column l = record {
  so_far : l.piece.items ≡ feature_start l.score (take l.column-index l.columns) l.line;
  short : length l.piece.items ≤ 62 + 384 * l.column-index;
}
