use Rattle.std.proofs.Common.{inl, refl, subst, sym}
use Rattle.bpf_meaning.specs.Extract.{IsExtract}
use Rattle.jobs.specs.Segments.{segments_of}
use Rattle.wire.proofs.programs.extract.Goals as goal

-- the layer of rows is the extract
pub returns-in-Ok-lay_out : goal.returns-in-Ok-lay_out
returns-in-Ok-lay_out g c =
    let code = c.in-Ok.verified.code in
    let layer = c.in-Ok-lay_out.ensures in
    let rows = subst (λ text. IsExtract code (segments_of c.args.counties.now) text layer.count) (sym layer.is_text) layer.is_extract in
    inl (code, c.in-Ok.ensures.ok, c.in-Ok-lay_out.rows.items, layer.count, rows, refl)
