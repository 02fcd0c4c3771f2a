use Rattle.std.proofs.Common.{◌≡◌, ◌+◌, ◌*◌, ◌≤◌, ◌∷◌, [], ◌++◌, length, take}
use Rattle.csv.specs.Writing.{default_writer, escaped}
use Rattle.layers.proofs.cell.push_quoted.Given as goal

abbrev pub invariant-loop-byte : goal.invariant-loop-byte
invariant-loop-byte l = record {
  so_far : l.piece.items ≡ (l.fn.piece.items ++ 34 ∷ []) ++ escaped default_writer (take l.byte-index l.cell);
  short : length l.piece.items ≤ length l.fn.piece.items + 2 * l.byte-index + 1;
}
