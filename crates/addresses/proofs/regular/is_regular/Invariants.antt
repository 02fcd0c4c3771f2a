use Rattle.std.proofs.Common.{◌≡◌, drop}
use Rattle.addresses.specs.declared.regular.RecordPart.TheVariants.{Start}
use Rattle.addresses.proofs.RegularLemmas.{walk}
use Rattle.addresses.proofs.regular.is_regular.Given as goal

abbrev pub invariant-loop-byte : goal.invariant-loop-byte
invariant-loop-byte l = walk l.line Start ≡ walk (drop l.byte-index l.line) l.part
