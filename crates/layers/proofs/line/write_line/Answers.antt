use Rattle.std.proofs.Common.{◌≡◌, ℕ, List, ◌++◌, Ok, Err, ap, subst, ◌∙◌, append_assoc}
use Rattle.std.proofs.lemmas.Result.{err_from_is_err_and}
use Rattle.counted_io.specs.Writing.{WritesText}
use Rattle.layers.proofs.WritingLemmas.{first_failed, then_written}
use Rattle.layers.specs.Line.{line_start, point_text, rest_text, start_text}
use Rattle.layers.proofs.line.write_line.Goals as goal

pub returns-in_err-write_text : goal.returns-in_err-write_text
returns-in_err-write_text g c =
    let value_of = g.W.CountedWrite.writer in
    let failed = err_from_is_err_and c.from_residual.result c.from_residual.ensures.1 in
    let fault = c.in_err-write_text.field-0.0 in
    let before = c.args.piece.now.items ++ start_text c.args.notation c.args.ends.start in
    let before_is : c.as_slice.result.now ≡ before =
    c.as_slice.ensures.value ∙ c.push_point.ensures.text ∙ ap (λ text. text ++ point_text c.args.notation c.args.ends.start) (c.push.ensures ∙ ap (λ text. c.args.piece.now.items ++ text) c.start.ensures.text)
    ∙ append_assoc c.args.piece.now.items (line_start c.args.notation) (point_text c.args.notation c.args.ends.start) in
    rw (failed.1, failed.2) (first_failed before (rest_text c.args.notation c.args.between.now c.args.ends.end) fault (value_of c.args.out.now)
    (value_of c.write_text.new.out)
    (subst (λ (text : List ℕ). WritesText text (Err fault) (value_of c.args.out.now) (value_of c.write_text.new.out)) before_is
    c.in_err-write_text.ensures))

pub returns : goal.returns
returns g c =
    let value_of = g.W.CountedWrite.writer in
    let before = c.args.piece.now.items ++ start_text c.args.notation c.args.ends.start in
    let before_is : c.as_slice.result.now ≡ before =
    c.as_slice.ensures.value ∙ c.push_point.ensures.text ∙ ap (λ text. text ++ point_text c.args.notation c.args.ends.start) (c.push.ensures ∙ ap (λ text. c.args.piece.now.items ++ text) c.start.ensures.text)
    ∙ append_assoc c.args.piece.now.items (line_start c.args.notation) (point_text c.args.notation c.args.ends.start) in
    then_written before (rest_text c.args.notation c.args.between.now c.args.ends.end) c.write_rest.result (value_of c.args.out.now) (value_of c.write_text.new.out)
    (value_of c.write_rest.new.out)
    (subst (λ (text : List ℕ). WritesText text (Ok tt) (value_of c.args.out.now) (value_of c.write_text.new.out)) before_is
    c.in_ok-write_text.ensures) c.write_rest.ensures
