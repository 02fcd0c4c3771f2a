use Rattle.std.proofs.Common.{◌≡◌, ℕ, List, ◌++◌, Some, None, ap, ap₂, sym, subst, ◌∙◌}
use Rattle.counted_io.specs.Writing.{WritesText}
use Rattle.layers.proofs.LayerLemmas.{with_line, without_line}
use Rattle.layers.specs.FeatureWriter.{format_of, start_of}
use Rattle.layers.specs.Geometry.{ends_for, inner_parts}
use Rattle.layers.specs.Layer.{shape_in}
use Rattle.layers.specs.Layout.{LayoutParts}
use Rattle.tl_segments.specs.Shapes.{table_of}
use Rattle.layers.specs.Line.{rest_text, start_text}
use Rattle.layers.proofs.feature_writer.FeatureWriterFormat.write_segment.Goals as goal

pub returns-in-Some-clause-written : goal.returns-in-Some-clause-written
returns-in-Some-clause-written g c =
    let value_of = g.W.CountedWrite.writer in
    let self = c.args.self.now in
    let layout : LayoutParts = record { columns = self.columns; geometry = self.geometry } in
    let segment = c.args.segment.now in
    let ends = c.in-Some.ends in
    let start = c.push_start.ensures.text ∙ ap₂ (start_of self.notation c.args.score) c.as_slice.ensures.value c.bytes-line.ensures.value in
    let found : ends_for layout.geometry segment.bytes ≡ Some ends =
    ap (ends_for layout.geometry) (sym c.bytes-line.ensures.value) ∙ sym c.ends.ensures.value ∙ c.in-Some.is in
    let text_is = ap₂ (λ (before rest : List ℕ). (before ++ start_text self.notation ends.start) ++ rest) start
    (ap (λ shape. rest_text self.notation shape ends.end) (c.inner_parts-between.ensures ∙ ap (inner_parts self.geometry)
    (c.shape_of-shape.ensures ∙ ap (shape_in (table_of self.shapes)) c.bytes-line.ensures.value)))
    ∙ with_line self.notation layout c.as_slice.ensures.some c.args.score segment _ ends found in
    subst (λ (text : List ℕ). WritesText text c.write_line.result (value_of c.args.out.now) (value_of c.write_line.new.out)) text_is c.write_line.ensures

pub returns-in-None-clause-written : goal.returns-in-None-clause-written
returns-in-None-clause-written g c =
    let value_of = g.W.CountedWrite.writer in
    let self = c.args.self.now in
    let layout : LayoutParts = record { columns = self.columns; geometry = self.geometry } in
    let segment = c.args.segment.now in
    let start = c.push_start.ensures.text ∙ ap₂ (start_of self.notation c.args.score) c.as_slice.ensures.value c.bytes-line.ensures.value in
    let none : ends_for layout.geometry segment.bytes ≡ None =
    ap (ends_for layout.geometry) (sym c.bytes-line.ensures.value) ∙ sym c.ends.ensures.value ∙ c.in-None.is in
    let text_is : c.as_slice-in-None.result.now ≡ format_of self c.args.score segment =
    c.as_slice-in-None.ensures.value ∙ c.push.ensures ∙ ap₂ (λ before end. before ++ end) start c.end_without_line.ensures.text
    ∙ without_line self.notation layout c.as_slice.ensures.some c.args.score segment _ none in
    subst (λ (text : List ℕ). WritesText text c.write_text.result (value_of c.args.out.now) (value_of c.write_text.new.out)) text_is c.write_text.ensures
