use Rattle.std.proofs.Common.{◌<◌, sym, arith}
use Rattle.cql2_code.proofs.ColumnParts.{less_with_both}
use Rattle.cql2_code.proofs.Refused.{prepends_as, prepends_refused, refuses_as, second_refused}
use Rattle.cql2_code.proofs.Written.{joined, opposite_written, written_as}
use Rattle.cql2_code.proofs.field_pairs.+prepend_less.Goals as goal

pub returns : goal.returns
returns g t c =
    let some : 0 < c.args.left = omega arith in
    let some_too : 0 < c.args.more = omega arith in
    let both = less_with_both c.args.at c.args.left c.args.other c.args.more some some_too in
    let words = c.words-words.ensures.value in
    let equal = joined words c.in_ok-prepend_less.ensures c.exits_before-same.ensures.before c.in_ok-prepend_pair.ensures in
    let less = joined words equal c.exits_before-less.ensures.before c.in_ok-prepend_pair-2.ensures in
    let blank = joined words less c.exits_before-blank.ensures.before c.in_ok-prepend_blanks.ensures in
    prepends_as c.prepend_blanks-3.result _
    (λ all front. written_as (sym both)
    (joined words blank c.exits_before-filled.ensures.before (opposite_written c.if_asked-2.ensures.falls c.if_asked-2.ensures.skip front)))
    c.prepend_blanks-3.ensures

pub returns-in_err-prepend_less : goal.returns-in_err-prepend_less
returns-in_err-prepend_less g t c =
    let some : 0 < c.args.left = omega arith in
    let some_too : 0 < c.args.more = omega arith in
    let both = less_with_both c.args.at c.args.left c.args.other c.args.more some some_too in
    prepends_refused c.from_residual.result _ c.from_residual.ensures.1
    (refuses_as (λ all written. written_as (sym both) written)
    (second_refused (second_refused (second_refused (second_refused c.in_err-prepend_less.ensures)))))

pub returns-in_err-prepend_pair : goal.returns-in_err-prepend_pair
returns-in_err-prepend_pair g t c =
    let some : 0 < c.args.left = omega arith in
    let some_too : 0 < c.args.more = omega arith in
    let both = less_with_both c.args.at c.args.left c.args.other c.args.more some some_too in
    prepends_refused c.from_residual-in_err-prepend_pair.result _ c.from_residual-in_err-prepend_pair.ensures.1
    (refuses_as (λ all written. written_as (sym both) written)
    (second_refused
    (second_refused
    (second_refused
    (refuses_as (λ all front. joined c.words-words.ensures.value c.in_ok-prepend_less.ensures c.exits_before-same.ensures.before front)
    c.in_err-prepend_pair.ensures)))))

pub returns-in_err-prepend_pair-2 : goal.returns-in_err-prepend_pair-2
returns-in_err-prepend_pair-2 g t c =
    let some : 0 < c.args.left = omega arith in
    let some_too : 0 < c.args.more = omega arith in
    let both = less_with_both c.args.at c.args.left c.args.other c.args.more some some_too in
    let words = c.words-words.ensures.value in
    let equal = joined words c.in_ok-prepend_less.ensures c.exits_before-same.ensures.before c.in_ok-prepend_pair.ensures in
    prepends_refused c.from_residual-in_err-prepend_pair-2.result _ c.from_residual-in_err-prepend_pair-2.ensures.1
    (refuses_as (λ all written. written_as (sym both) written)
    (second_refused
    (second_refused
    (refuses_as (λ all front. joined words equal c.exits_before-less.ensures.before front) c.in_err-prepend_pair-2.ensures))))

pub returns-in_err-prepend_blanks : goal.returns-in_err-prepend_blanks
returns-in_err-prepend_blanks g t c =
    let some : 0 < c.args.left = omega arith in
    let some_too : 0 < c.args.more = omega arith in
    let both = less_with_both c.args.at c.args.left c.args.other c.args.more some some_too in
    let words = c.words-words.ensures.value in
    let equal = joined words c.in_ok-prepend_less.ensures c.exits_before-same.ensures.before c.in_ok-prepend_pair.ensures in
    let less = joined words equal c.exits_before-less.ensures.before c.in_ok-prepend_pair-2.ensures in
    prepends_refused c.from_residual-in_err-prepend_blanks.result _ c.from_residual-in_err-prepend_blanks.ensures.1
    (refuses_as (λ all written. written_as (sym both) written)
    (second_refused
    (refuses_as (λ all front. joined words less c.exits_before-blank.ensures.before front) c.in_err-prepend_blanks.ensures)))
