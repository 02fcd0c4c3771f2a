use Rattle.std.proofs.Common.{ℕ, List, ap, map, subst, sym, ◌∙◌}
use Rattle.commands.specs.GeocodeBatch.{AreAddressesOf, Inputs, IsAddressesFault}
use Rattle.commands.proofs.BatchLemmas.{addresses_failed, addresses_usage, batch_lent, batch_usage, counties_failed, counties_lent}
use Rattle.commands.proofs.CarriedLemmas.{memory_carried}
use Rattle.named_files.proofs.FileLemmas.{unfailed_both}
use Rattle.commands.proofs.geocode_batch.GeocodeBatch.carry_out.Goals as goal

pub returns-in-Err-load_counties-clause-carried : goal.returns-in-Err-load_counties-clause-carried
returns-in-Err-load_counties-clause-carried g c =
    counties_failed g.F.Files.opens c.args.self c.in-Ok.ensures.uses c.in-Ok.ensures.stay c.as_slice-codes.result.now c.as_slice-codes.ensures.value
    c.in-Err-load_counties.failure c.in-Err-load_counties.ensures.err c.in-Err-load_counties.ensures.names
    c.in-Err-load_counties.ensures.counts

pub returns-in-Err-check_addresses-clause-carried : goal.returns-in-Err-check_addresses-clause-carried
returns-in-Err-check_addresses-clause-carried g c =
    let loaded = c.in-Ok-load_counties in
    let inputs : Inputs c.args.self (g.F.Files.disk c.args.files.now).known = record {
      file = c.in-Ok.file.items;
      is_file = c.in-Ok.ensures.known;
      counties = loaded.counties.items;
      are_counties = counties_lent c.args.self c.in-Ok.ensures.stay c.as_slice-codes.ensures.value loaded.counties.items loaded.ensures.ok;
    } in
    addresses_failed c.args.self inputs (unfailed_both c.in-Ok.ensures.uses loaded.ensures.counts)
    c.in-Err-check_addresses.fault c.of_addresses.result
    (subst (λ (file : List ℕ). IsAddressesFault file c.in-Err-check_addresses.fault) c.as_slice.ensures.value
    c.in-Err-check_addresses.ensures.err) c.of_addresses.ensures

pub returns-clause-carried : goal.returns-clause-carried
returns-clause-carried g c =
    let loaded = c.in-Ok-load_counties in
    let inputs : Inputs c.args.self (g.F.Files.disk c.args.files.now).known = record {
      file = c.in-Ok.file.items;
      is_file = c.in-Ok.ensures.known;
      counties = loaded.counties.items;
      are_counties = counties_lent c.args.self c.in-Ok.ensures.stay c.as_slice-codes.ensures.value loaded.counties.items loaded.ensures.ok;
    } in
    let held = c.in-Ok-check_addresses.ensures.ok in
    let are = subst (λ (file : List ℕ). AreAddressesOf file held.0) c.as_slice.ensures.value held.1 in
    batch_lent c.args.self inputs (unfailed_both c.in-Ok.ensures.uses loaded.ensures.counts)
    c.write_batch.result c.in_ok-of.field-0
    (c.in_ok-of.ensures
    ∙ ap (λ counties. record { counties = counties; codes = map (λ code. code.now) c.as_slice-codes.result.now }) c.as_slice-2.ensures.value
    ∙ ap (λ codes. record { counties = loaded.counties.items; codes = map (λ code. code.now) codes }) c.as_slice-codes.ensures.value)
    held.0 are
    (c.write_batch.ensures held.0
    (subst (λ (file : List ℕ). AreAddressesOf file held.0) (sym c.as_slice-3.ensures.value) are))

pub returns-clause-usage : goal.returns-clause-usage
returns-clause-usage g c =
    let held = c.in-Ok-check_addresses.ensures.ok in
    batch_usage _ _ c.write_batch.result (g.W.CountedWrite.writer c.args.out.now)
    (g.W.CountedWrite.writer c.write_batch.new.out)
    (c.write_batch.ensures held.0
    (subst (λ (file : List ℕ). AreAddressesOf file held.0) (c.as_slice.ensures.value ∙ sym c.as_slice-3.ensures.value) held.1))

pub returns-in-Err-check_addresses-clause-usage : goal.returns-in-Err-check_addresses-clause-usage
returns-in-Err-check_addresses-clause-usage g c = addresses_usage c.in-Err-check_addresses.fault c.of_addresses.result c.of_addresses.ensures

pub returns-in_err-of-clause-carried : goal.returns-in_err-of-clause-carried
returns-in_err-of-clause-carried g c =
    memory_carried g.F.Files.opens c.from_residual.result c.from_residual.ensures.1
    (unfailed_both c.in-Ok.ensures.uses c.in-Ok-load_counties.ensures.counts)
