use Rattle.std.proofs.Common.{◌≡◌, ℕ, List, ◌∷◌, [], ◌++◌, ap, subst, ◌∙◌}
use Rattle.std.specs.List.{flat_map}
use Rattle.counted_io.specs.Writing.{WritesText}
use Rattle.layers.proofs.PointLemmas.{three}
use Rattle.layers.proofs.WritingLemmas.{then_written}
use Rattle.layers.specs.Line.{further_points, line_end, point_text}
use Rattle.tl_segments.specs.Shape.{ShapePartParts}
use Rattle.layers.proofs.line.write_rest.Goals as goal

pub returns : goal.returns
returns g c =
    let value_of = g.W.CountedWrite.writer in
    let points = flat_map (λ (part : ShapePartParts). further_points c.args.notation part.points) c.args.between.now in
    let end = point_text c.args.notation c.args.end in
    let last = (44 ∷ [] ++ end) ++ line_end c.args.notation in
    let last_is : c.as_slice.result.now ≡ last =
    c.as_slice.ensures.value
    ∙ three (44 ∷ []) end (line_end c.args.notation) c.clear.new.self.items c.push.ensures c.push_point.ensures.text
    (c.push-2.ensures ∙ ap (λ text. c.push_point.new.piece.items ++ text) c.end.ensures.text)
    ∙ ap (λ start. start ++ last) c.clear.ensures in
    then_written points last c.write_text.result (value_of c.args.out.now) (value_of c.write_parts.new.out) (value_of c.write_text.new.out)
    c.in_ok-write_parts.ensures
    (subst (λ (text : List ℕ). WritesText text c.write_text.result (value_of c.write_parts.new.out) (value_of c.write_text.new.out)) last_is
    c.write_text.ensures)
