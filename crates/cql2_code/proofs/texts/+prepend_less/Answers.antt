use Rattle.std.proofs.Common.{◌<◌, sym, arith}
use Rattle.cql2_code.proofs.ChunkLemmas.{less_more}
use Rattle.cql2_code.proofs.Refused.{prepends_as, prepends_refused, refuses_as, second_refused}
use Rattle.cql2_code.proofs.Written.{joined, written_as}
use Rattle.cql2_code.proofs.texts.+prepend_less.Goals as goal

pub returns : goal.returns
returns g t c =
    let some : 0 < c.args.left = omega arith in
    let more = less_more c.args.at c.args.left c.args.text.now c.in-Some.byte.now c.in-Some.rest.now some c.in-Some.ensures.cases.0 in
    let words = c.words-words.ensures.value in
    let equal = written_as c.byte_test.ensures c.in_ok-prepend_test.ensures in
    let same = joined words c.in_ok-prepend_less.ensures c.exits_before-same.ensures.before equal in
    prepends_as c.prepend_test-2.result _
    (λ all front. written_as (sym more) (joined words same c.exits_before-less.ensures.before (written_as c.byte_test-2.ensures front)))
    c.prepend_test-2.ensures

pub returns-in_err-prepend_test : goal.returns-in_err-prepend_test
returns-in_err-prepend_test g t c =
    let some : 0 < c.args.left = omega arith in
    let more = less_more c.args.at c.args.left c.args.text.now c.in-Some.byte.now c.in-Some.rest.now some c.in-Some.ensures.cases.0 in
    let is = c.from_residual-in_err-prepend_test.ensures.1 in
    prepends_refused c.from_residual-in_err-prepend_test.result _ is
    (refuses_as (λ all written. written_as (sym more) written)
    (second_refused
    (refuses_as
    (λ all front. joined c.words-words.ensures.value c.in_ok-prepend_less.ensures c.exits_before-same.ensures.before
    (written_as c.byte_test.ensures front))
    c.in_err-prepend_test.ensures)))
