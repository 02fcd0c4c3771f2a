use Rattle.std.proofs.Common.{List, length}
use Rattle.addresses.specs.Address.{AddressParts}
use Rattle.addresses.specs.Listing.{addresses_left}
use Rattle.commands.proofs.BatchLemmas.{IsReadTo}
use Rattle.commands.proofs.geocode_batch.check_addresses.Given as goal

-- some addresses were read
abbrev pub invariant-loop-row : goal.invariant-loop-row
invariant-loop-row l = (rows : List AddressParts) × IsReadTo l.file rows (addresses_left l.addresses)

abbrev pub decreases-loop-row : goal.decreases-loop-row
decreases-loop-row l = length (addresses_left l.addresses).addresses
