use Rattle.std.proofs.Common.{◌<◌, length, sym, ◌∙◌, arith}
use Rattle.std.proofs.lemmas.Bool.{eqb-false}
use Rattle.cql2_code.proofs.ChunkLemmas.{has_each-more}
use Rattle.cql2_code.proofs.Refused.{prepends_as}
use Rattle.cql2_code.proofs.Written.{joined, written_as}
use Rattle.cql2_code.proofs.texts.+prepend_each.Goals as goal

pub returns : goal.returns
returns g t c =
    let other = eqb-false (length c.in-Some.rest.now) 0 (sym c.is_empty.ensures ∙ c.if-is_empty.false) in
    let some : 0 < length c.in-Some.rest.now = omega arith in
    let more = has_each-more c.args.at c.args.bytes.now c.in-Some.byte.now c.in-Some.rest.now c.in-Some.ensures.cases.0 some in
    prepends_as c.prepend_test-2.result _
    (λ all front. written_as (sym more)
    (joined c.words-words.ensures.value c.in_ok-prepend_each.ensures c.exits_before-exits.ensures.before
    (written_as c.byte_test-test.ensures front)))
    c.prepend_test-2.ensures
