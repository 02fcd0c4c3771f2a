use Rattle.std.proofs.Common.{◌<◌, true, length, sym, ◌∙◌, arith}
use Rattle.std.proofs.lemmas.Bool.{eqb-false}
use Rattle.cql2_code.specs.Lowering.{is_required}
use Rattle.cql2_code.proofs.PatternLemmas.{is_each_required-more}
use Rattle.cql2_code.proofs.Refused.{prepends_as, prepends_refused, refuses_as, second_refused}
use Rattle.cql2_code.proofs.Written.{joined, written_as}
use Rattle.cql2_code.proofs.pieces.+prepend_each_required.Goals as goal

pub returns-in_err-prepend_each_required : goal.returns-in_err-prepend_each_required
returns-in_err-prepend_each_required g t c =
    let other = eqb-false (length c.in-Some.rest.now) 0 (sym c.is_empty.ensures ∙ c.if-is_empty.false) in
    let some : 0 < length c.in-Some.rest.now = omega arith in
    let more = is_each_required-more c.args.at c.args.piece.now c.in-Some.first.now c.in-Some.rest.now c.in-Some.ensures.cases.0 some in
    prepends_refused c.from_residual.result _ c.from_residual.ensures.1
    (refuses_as (λ all written. written_as (sym more) written)
    (second_refused {neutral = true} {first = is_required c.args.at c.in-Some.first.now} c.in_err-prepend_each_required.ensures))

pub returns : goal.returns
returns g t c =
    let other = eqb-false (length c.in-Some.rest.now) 0 (sym c.is_empty.ensures ∙ c.if-is_empty.false) in
    let some : 0 < length c.in-Some.rest.now = omega arith in
    let more = is_each_required-more c.args.at c.args.piece.now c.in-Some.first.now c.in-Some.rest.now c.in-Some.ensures.cases.0 some in
    prepends_as c.prepend_required-2.result _
    (λ all front. written_as (sym more)
    (joined c.words-words.ensures.value c.in_ok-prepend_each_required.ensures c.exits_before-exits.ensures.before front))
    c.prepend_required-2.ensures
