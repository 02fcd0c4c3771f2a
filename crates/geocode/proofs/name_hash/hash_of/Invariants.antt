use Rattle.std.proofs.Common.{◌≡◌, take}
use Rattle.geocode.specs.NameHash.{hash_of}
use Rattle.geocode.proofs.name_hash.hash_of.Given as goal

abbrev pub invariant-loop-byte : goal.invariant-loop-byte
invariant-loop-byte l = l.hash ≡ hash_of (take l.byte-index l.name)
