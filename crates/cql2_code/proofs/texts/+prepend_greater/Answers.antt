use Rattle.std.proofs.Common.{◌≤◌, ◌<◌, sym, ap, ◌∙◌, arith}
use Rattle.cql2_code.specs.Lowering.{is_blank}
use Rattle.cql2_code.proofs.ChunkLemmas.{blank_bytes, greater_blank, greater_more}
use Rattle.cql2_code.proofs.Refused.{prepends_as, prepends_refused, refuses_as, second_refused}
use Rattle.cql2_code.proofs.Written.{joined, opposite_written, written_as}
use Rattle.cql2_code.proofs.texts.+prepend_greater.Goals as goal

pub returns-in_default : goal.returns-in_default
returns-in_default g t c =
    let some : 0 < c.args.left = omega arith in
    let blank = greater_blank c.args.at c.args.left c.args.text.now some c.in_default.ensures.cases in
    let few : c.from.result ≤ 30 = omega arith in
    let blanks = blank_bytes c.args.at c.from.result few ∙ ap (is_blank c.args.at) c.from.ensures in
    prepends_as c.prepend_bytes.result _
    (λ all written. written_as (sym blank) (opposite_written c.if_asked.ensures.falls c.if_asked.ensures.skip (written_as blanks written)))
    c.prepend_bytes.ensures

pub returns : goal.returns
returns g t c =
    let some : 0 < c.args.left = omega arith in
    let more = greater_more c.args.at c.args.left c.args.text.now c.in-Some.byte.now c.in-Some.rest.now some c.in-Some.ensures.cases.0 in
    let words = c.words-words.ensures.value in
    let equal = written_as c.byte_test.ensures c.in_ok-prepend_test.ensures in
    let same = joined words c.in_ok-prepend_greater.ensures c.exits_before-same.ensures.before equal in
    prepends_as c.prepend_test-2.result _
    (λ all front. written_as (sym more) (joined words same c.exits_before-greater.ensures.before (written_as c.byte_test-2.ensures front)))
    c.prepend_test-2.ensures

pub returns-in_err-prepend_test : goal.returns-in_err-prepend_test
returns-in_err-prepend_test g t c =
    let some : 0 < c.args.left = omega arith in
    let more = greater_more c.args.at c.args.left c.args.text.now c.in-Some.byte.now c.in-Some.rest.now some c.in-Some.ensures.cases.0 in
    let is = c.from_residual-in_err-prepend_test.ensures.1 in
    prepends_refused c.from_residual-in_err-prepend_test.result _ is
    (refuses_as (λ all written. written_as (sym more) written)
    (second_refused
    (refuses_as
    (λ all front. joined c.words-words.ensures.value c.in_ok-prepend_greater.ensures c.exits_before-same.ensures.before
    (written_as c.byte_test.ensures front))
    c.in_err-prepend_test.ensures)))
