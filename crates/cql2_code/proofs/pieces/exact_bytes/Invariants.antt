use Rattle.std.proofs.Common.{◌≡◌, length, map, take}
use Rattle.cql2.specs.declared.pattern.PatternPart.TheVariants.{Exactly}
use Rattle.cql2_code.proofs.pieces.exact_bytes.Given as goal

abbrev pub invariant-loop-byte : goal.invariant-loop-byte
invariant-loop-byte l = (length l.bytes.items ≡ l.byte-index) × (take l.byte-index l.piece ≡ map Exactly l.bytes.items)
