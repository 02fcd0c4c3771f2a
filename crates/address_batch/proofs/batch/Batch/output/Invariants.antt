use Rattle.std.proofs.Common.{length}
use Rattle.addresses.specs.Listing.{addresses_left}
use Rattle.address_batch.proofs.OutputLemmas.{IsOutputTo}
use Rattle.address_batch.proofs.batch.Batch.output.Given as goal

-- the text is the output for the addresses so far
abbrev pub invariant-loop-lines : goal.invariant-loop-lines
invariant-loop-lines g l = IsOutputTo l.file l.self.codes l.self.counties (addresses_left l.addresses) l.text.items

abbrev pub decreases-loop-lines : goal.decreases-loop-lines
decreases-loop-lines g l = length (addresses_left l.addresses).addresses
