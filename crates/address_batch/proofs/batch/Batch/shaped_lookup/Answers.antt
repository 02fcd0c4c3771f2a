use Rattle.std.proofs.Common.{IfOk, ap, subst, ◌∙◌}
use Rattle.addresses.specs.Address.{parts_of}
use Rattle.address_batch.specs.AddressQuery as asked
use Rattle.address_batch.specs.Batch.{BatchParts}
use Rattle.address_batch.specs.LookupResult as looked_up
use Rattle.address_batch.specs.ShapedLookup.{IsPlaced}
use Rattle.address_batch.proofs.ShapedLemmas.{shaped_lookup}
use Rattle.address_batch.proofs.batch.Batch.shaped_lookup.Goals as goal

pub returns : goal.returns
returns g c =
    let query = asked.parts_of c.in-Ok.address_query in
    let found = looked_up.parts_of c.in_ok-lookup.lookup in
    let is_found = c.in_ok-lookup.ensures ∙ ap (λ (batch : BatchParts). looked_up.lookup_in batch.counties query) c.self.view_is in
    shaped_lookup c.placed_lookup.result c.args.self.now.counties (parts_of c.args.address.now) query found c.in-Ok.ensures is_found
    (subst (λ (batch : BatchParts). IfOk c.placed_lookup.result (λ placed. IsPlaced query.query.number batch.counties found (looked_up.parts_of placed)))
    c.self.view_is c.placed_lookup.ensures)
