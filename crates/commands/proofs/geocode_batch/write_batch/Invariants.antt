use Rattle.std.proofs.Common.{length}
use Rattle.addresses.specs.Listing.{addresses_left}
use Rattle.commands.specs.GeocodeBatch.{AreLinesIn}
use Rattle.commands.proofs.BatchLemmas.{IsWrittenTo}
use Rattle.commands.proofs.geocode_batch.write_batch.Given as goal

-- the output for the addresses so far is written
abbrev pub invariant-loop-lines : goal.invariant-loop-lines
invariant-loop-lines g l =
    IsWrittenTo (AreLinesIn l.lookup.shape l.lookup.batch.codes l.lookup.batch.counties) l.file (addresses_left l.addresses)
    (g.W.CountedWrite.writer l.fn.out) (g.W.CountedWrite.writer l.out)

abbrev pub decreases-loop-lines : goal.decreases-loop-lines
decreases-loop-lines g l = length (addresses_left l.addresses).addresses
