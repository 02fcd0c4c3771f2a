use Rattle.std.proofs.Common.{◌≡◌, ◌+◌, ◌*◌, ◌≤◌, ◌∷◌, [], ◌++◌, length, take}
use Rattle.json.specs.Print.{escape}
use Rattle.layers.proofs.string.push_string.Given as goal

abbrev pub invariant-loop-byte : goal.invariant-loop-byte
invariant-loop-byte l = record {
  so_far : l.piece.items ≡ (l.fn.piece.items ++ 34 ∷ []) ++ escape (take l.byte-index l.text);
  short : length l.piece.items ≤ length l.fn.piece.items + 6 * l.byte-index + 1;
}
