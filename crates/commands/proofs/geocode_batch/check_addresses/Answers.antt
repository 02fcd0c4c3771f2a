use Rattle.addresses.specs.Address.{address_in}
use Rattle.addresses.specs.Listing.{addresses_left}
use Rattle.commands.proofs.BatchLemmas.{read_further}
use Rattle.commands.proofs.geocode_batch.check_addresses.Goals as goal

pub loop-row-preserved : goal.loop-row-preserved
loop-row-preserved c = (
  _,
  read_further c.args.file.now c.loop-row.invariant.0 (addresses_left c.loop-row.addresses) c.loop-row.invariant.1
      (address_in c.read.new.row) (addresses_left c.read.new.self) (rw c.if-branch.true at c.in_ok-read.ensures.next),
)
