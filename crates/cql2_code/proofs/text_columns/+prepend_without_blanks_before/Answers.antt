use Rattle.std.proofs.Common.{◌<◌, sym, arith}
use Rattle.cql2_code.proofs.Refused.{prepends_as, prepends_refused, refuses_as, second_refused}
use Rattle.cql2_code.proofs.TextColumnParts.{without_more}
use Rattle.cql2_code.proofs.Written.{joined, written_as}
use Rattle.cql2_code.proofs.text_columns.+prepend_without_blanks_before.Goals as goal

pub returns : goal.returns
returns g t c =
    let some : 0 < c.args.field.width = omega arith in
    let more = without_more (g.Q.TextQuestion.asks c.args.question.now) c.args.field.offset c.args.field.width some in
    let words = c.words-words.ensures.value in
    let blank = written_as c.byte_test.ensures c.in_ok-prepend_test.ensures in
    let rest = joined words c.in_ok-prepend_without_blanks_before.ensures c.exits_before-blank.ensures.before blank in
    prepends_as c.prepend_if_filled.result _
    (λ all front. written_as (sym more) (joined words rest c.exits_before-filled.ensures.before front))
    c.prepend_if_filled.ensures

pub returns-in_err-prepend_without_blanks_before : goal.returns-in_err-prepend_without_blanks_before
returns-in_err-prepend_without_blanks_before g t c =
    let some : 0 < c.args.field.width = omega arith in
    let more = without_more (g.Q.TextQuestion.asks c.args.question.now) c.args.field.offset c.args.field.width some in
    prepends_refused c.from_residual.result _ c.from_residual.ensures.1
    (refuses_as (λ all written. written_as (sym more) written)
    (second_refused (second_refused c.in_err-prepend_without_blanks_before.ensures)))

pub returns-in_err-prepend_test : goal.returns-in_err-prepend_test
returns-in_err-prepend_test g t c =
    let some : 0 < c.args.field.width = omega arith in
    let more = without_more (g.Q.TextQuestion.asks c.args.question.now) c.args.field.offset c.args.field.width some in
    prepends_refused c.from_residual-in_err-prepend_test.result _ c.from_residual-in_err-prepend_test.ensures.1
    (refuses_as (λ all written. written_as (sym more) written)
    (second_refused
    (refuses_as
    (λ all front. joined c.words-words.ensures.value c.in_ok-prepend_without_blanks_before.ensures c.exits_before-blank.ensures.before
    (written_as c.byte_test.ensures front))
    c.in_err-prepend_test.ensures)))
