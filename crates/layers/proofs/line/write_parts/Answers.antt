use Rattle.std.proofs.Common.{ℕ, List, ap, ◌∙◌}
use Rattle.std.proofs.lemmas.Result.{err_from_is_err_and}
use Rattle.layers.proofs.WritingLemmas.{piece_stopped}
use Rattle.layers.specs.Line.{further_points}
use Rattle.tl_segments.specs.Shape.{ShapePartParts}
use Rattle.layers.proofs.line.write_parts.Goals as goal

pub returns-in_err-write_text : goal.returns-in_err-write_text
returns-in_err-write_text g c =
    let text_of : ShapePartParts → List ℕ = λ part. further_points c.args.notation part.points in
    let failed = err_from_is_err_and c.from_residual.result c.from_residual.ensures.1 in
    let text_is = c.as_slice.ensures.value ∙ c.push_points.ensures.text ∙ ap (further_points c.args.notation) c.points.ensures.value ∙ ap text_of c.part-item.is in
    rw (failed.1, failed.2) (piece_stopped text_of c.args.parts.now c.loop-part.part-index c.part-item.result c.loop-part-test.true
    c.as_slice.result.now text_is _ _ _ _ c.loop-part.invariant c.in_err-write_text.ensures)
