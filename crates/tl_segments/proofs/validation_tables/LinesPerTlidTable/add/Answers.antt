use Rattle.std.proofs.Common.{ap, sym, ◌∙◌}
use Rattle.tl_fields.specs.Number.{number_of}
use Rattle.tl_records.specs.Layout.{field_at}
use Rattle.tl_segments.proofs.JoiningLemmas.{Follows, count_added}
use Rattle.tl_segments.proofs.validation_tables.LinesPerTlidTable.add.Goals as goal

pub returns : goal.returns
returns g c = λ lines holds valid.
    let line = c.args.rt.now.bytes in
    let is = ap (λ layout. number_of (field_at layout.number line)) (sym g.met.T.FileType.layout_is) ∙ c.number.ensures.value in
    let follows : Follows g.T.FileType.FILE lines line c.number.result =
    record { numbered = is; within = valid.within; limited = g.met.T.Limited.limited; distinct = g.met.T.Limited.distinct } in
    count_added follows c.args.self.now c.count.new.self holds c.count.result c.count.ensures
