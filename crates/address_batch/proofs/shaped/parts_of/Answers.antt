use Rattle.std.proofs.Common.{◌≤◌, [], Option, length, ap, sym, arith}
use Rattle.std.proofs.lemmas.Bool.Decides.{nat_tests}
use Rattle.std.proofs.lemmas.Option.{slice_get_past}
use Rattle.std.specs.Option.{option_map_or}
use Rattle.tl_segments.specs.County.{CountyParts, shapes_in}
use Rattle.address_batch.proofs.shaped.parts_of.Goals as goal

pub returns-in-None-clause-value : goal.returns-in-None-clause-value
returns-in-None-clause-value g c =
    let lookup = c.in-None.ensures.lookup.0 in
    let past : length c.args.counties.now ≤ c.args.found.now.county = grind (arith, nat_tests) in
    ap (λ (county : Option CountyParts). option_map_or (λ county. shapes_in county c.args.found.now.hit.tlid) county [])
    (sym (slice_get_past c.args.counties.now c.args.found.now.county past))
