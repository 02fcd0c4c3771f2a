use Rattle.std.proofs.Common.{sym, ◌∙◌}
use Rattle.cql2_code.proofs.Refused.{prepends_as, prepends_refused}
use Rattle.cql2_code.proofs.TextColumnParts.{about_left, about_left_filled, about_right, asked_refused}
use Rattle.cql2_code.proofs.Written.{joined, opposite_written, written_as}
use Rattle.cql2_code.proofs.text_columns.prepend_asks_about.Goals as goal

pub returns-then-is_right_justified : goal.returns-then-is_right_justified
returns-then-is_right_justified g c =
    let right = sym c.is_right_justified.ensures ∙ c.if-is_right_justified.true in
    let about = about_right c.args.of_blanks (g.Q.TextQuestion.asks c.args.question.now) c.args.column c.field_of-field.result
    c.field_of-field.ensures.value right in
    prepends_as c.prepend_without_blanks_before.result _ (λ all written. written_as about written) c.prepend_without_blanks_before.ensures

pub returns-in_err-prepend : goal.returns-in_err-prepend
returns-in_err-prepend g c =
    let left = sym c.is_right_justified.ensures ∙ c.if-is_right_justified.false in
    prepends_refused c.from_residual.result _ c.from_residual.ensures.1
    (asked_refused c.args.of_blanks (g.Q.TextQuestion.asks c.args.question.now) c.args.column c.field_of-field.result
    c.field_of-field.ensures.value left c.in_err-prepend.ensures)

pub returns-then-not-of_blanks : goal.returns-then-not-of_blanks
returns-then-not-of_blanks g c =
    let left = sym c.is_right_justified.ensures ∙ c.if-is_right_justified.false in
    let about = about_left c.args.of_blanks (g.Q.TextQuestion.asks c.args.question.now) c.args.column c.field_of-field.result
    c.field_of-field.ensures.value left c.if-not-of_blanks.true in
    written_as about c.in_ok-prepend.ensures

pub returns : goal.returns
returns g c =
    let left = sym c.is_right_justified.ensures ∙ c.if-is_right_justified.false in
    let about = about_left_filled c.args.of_blanks (g.Q.TextQuestion.asks c.args.question.now) c.args.column c.field_of-field.result
    c.field_of-field.ensures.value left c.if-not-of_blanks.false in
    prepends_as c.prepend_blank_field.result _
    (λ all front. written_as about
    (joined c.words-words.ensures.value c.in_ok-prepend.ensures c.exits_before-exits.ensures.before
    (opposite_written c.if_asked.ensures.falls c.if_asked.ensures.skip front)))
    c.prepend_blank_field.ensures
