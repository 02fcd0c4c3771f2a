use Rattle.std.proofs.Common.{ap, sym, ◌∙◌}
use Rattle.tl_segments.specs.Shapes.{ShapesParts, parts_at}
use Rattle.tl_segments.proofs.ShapeTableLemmas.{parts_in_table}
use Rattle.tl_segments.proofs.shapes.Shapes.parts.Goals as goal

pub returns-clause-value : goal.returns-clause-value
returns-clause-value g c =
    c.list.ensures.value ∙ sym (parts_in_table c.self.inside.parts c.args.tlid) ∙ ap (λ (shapes : ShapesParts). parts_at shapes c.args.tlid) c.self.view_is
