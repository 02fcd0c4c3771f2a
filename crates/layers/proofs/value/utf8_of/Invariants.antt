use Rattle.std.proofs.Common.{◌≡◌, ◌≤◌, ◌*◌, length, take, encode_utf8_all}
use Rattle.layers.proofs.value.utf8_of.Given as goal

abbrev pub invariant-loop-byte : goal.invariant-loop-byte
invariant-loop-byte l = record {
  so_far : l.text.items ≡ encode_utf8_all (take l.byte-index l.bytes);
  short : length l.text.items ≤ 2 * l.byte-index;
}
