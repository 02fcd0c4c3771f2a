use Rattle.std.proofs.Common.{Err, ◌∙◌}
use Rattle.commands.proofs.LayerLemmas.{layer_closes}
use Rattle.commands.proofs.ReadLemmas.{county_from}
use Rattle.commands.proofs.SelectLemmas.{stopped_counts, stopped_fails}
use Rattle.commands.proofs.select.select_county.Goals as goal

pub returns-in-Err-written-clause-counts : goal.returns-in-Err-written-clause-counts
returns-in-Err-written-clause-counts g c =
    rw c.of_county_extract.ensures (stopped_counts _ _ c.args.folder.now c.args.code c.in-Err-written.fault
    (layer_closes c.in-Ok.ensures.hold (county_from c.in-Ok.ensures.opens.reads c.close_county.ensures.reads) _ _
    (Err c.in-Err-written.fault) c.in-Err-written.ensures)
    (c.close_county.ensures.opens ∙ c.in-Ok.ensures.opens.opens))

pub returns-in-Err-written-clause-fails : goal.returns-in-Err-written-clause-fails
returns-in-Err-written-clause-fails g c =
    rw c.of_county_extract.ensures (stopped_fails g.F.Files.opens
    (g.F.Files.disk c.args.files.now)
    (g.F.Files.disk c.close_county.new.files) c.args.folder.now c.args.code c.in-Err-written.fault
    (layer_closes c.in-Ok.ensures.hold (county_from c.in-Ok.ensures.opens.reads c.close_county.ensures.reads) _ _
    (Err c.in-Err-written.fault) c.in-Err-written.ensures))
