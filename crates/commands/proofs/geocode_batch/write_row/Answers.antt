use Rattle.std.proofs.Common.{ℕ, List, subst}
use Rattle.commands.specs.Failure.{WritesAs}
use Rattle.commands.specs.GeocodeBatch.{AreLinesIn}
use Rattle.commands.proofs.BatchLemmas.{written_unless}
use Rattle.commands.proofs.geocode_batch.write_row.Goals as goal

pub returns : goal.returns
returns g c =
    let out = g.W.CountedWrite.writer c.args.out.now in
    let out' = g.W.CountedWrite.writer c.write.new.out in
    let are = AreLinesIn c.args.lookup.now.shape c.args.lookup.now.batch.codes c.args.lookup.now.batch.counties in
    written_unless _ _ c.write.result out out' _
    (subst (λ address. are address c.write_lines.new.lines) c.address-address.ensures c.in-Ok.ensures)
    (subst (λ (text : List ℕ). WritesAs text c.write.result out out') c.as_bytes.ensures c.write.ensures)
