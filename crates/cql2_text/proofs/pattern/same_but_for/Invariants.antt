use Rattle.std.proofs.Common.{◌≡◌, true, map, take}
use Rattle.cql2.specs.Pattern.{are_bytes}
use Rattle.cql2_text.specs.Pattern.{character_pattern}
use Rattle.cql2_text.proofs.pattern.same_but_for.Given as goal

abbrev pub invariant-loop-byte : goal.invariant-loop-byte
invariant-loop-byte g l = record {
  letters : l.parts.items ≡ map (character_pattern l.folding) (take l.byte-index l.bytes);
  bytes : are_bytes l.parts.items ≡ true;
}
