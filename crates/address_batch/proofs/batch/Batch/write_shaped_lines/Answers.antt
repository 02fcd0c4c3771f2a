use Rattle.addresses.specs.Address.{parts_of}
use Rattle.address_batch.specs.LookupResult as looked_up
use Rattle.address_batch.proofs.ShapedLemmas.{shaped_lines}
use Rattle.address_batch.proofs.batch.Batch.write_shaped_lines.Goals as goal

pub returns : goal.returns
returns g c = shaped_lines c.write_lookup.result c.args.self.now.codes c.args.self.now.counties (parts_of c.args.address.now)
    (looked_up.parts_of c.in_ok-lookup.lookup) c.write_lookup.new.lines c.in_ok-lookup.ensures c.write_lookup.ensures
