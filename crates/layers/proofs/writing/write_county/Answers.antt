use Rattle.std.proofs.Common.{inr, ap, option_map}
use Rattle.layers.proofs.LayerLemmas.{format_is, rows_are, written_with}
use Rattle.layers.proofs.writing.write_county.Goals as goal

pub returns-in-Some : goal.returns-in-Some
returns-in-Some g c =
    let shapes = c.in_ok-shapes.ensures in
    let written = c.extract_verified_in.ensures in
    inr (written_with (format_is _ c.in-Some.features _ c.in-Some.ensures)
    (record { loaded = _; loads = shapes.ok; others = shapes.unread; same = ap (option_map g.R.CountedRead.reader) written.shapes }) written.outcome)

pub returns-in-None : goal.returns-in-None
returns-in-None g c =
    let shapes = c.in_ok-shapes.ensures in
    let written = c.extract_verified_in-in-None.ensures in
    inr (written_with (rows_are _ _ c.in-None.ensures)
    (record { loaded = _; loads = shapes.ok; others = shapes.unread; same = ap (option_map g.R.CountedRead.reader) written.shapes }) written.outcome)
