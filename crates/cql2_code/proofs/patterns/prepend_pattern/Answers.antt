use Rattle.std.proofs.Common.{◌≡◌, ◌<◌, ◌≤◌, ◌+◌, ◌-◌, Bool, true, not, sym, ap, ◌∙◌, arith}
use Rattle.cql2_code.specs.Lowering.{are_required, is_piece}
use Rattle.cql2_code.specs.Pieces.{least_length}
use Rattle.cql2_code.proofs.CutLemmas.{first_and_rest, like_long, like_one, like_several}
use Rattle.cql2_code.proofs.Refused.{prepends_as, prepends_refused, refuses_as, second_refused}
use Rattle.cql2_code.proofs.Written.{joined, written_as}
use Rattle.cql2_code.proofs.patterns.prepend_pattern.Goals as goal

pub returns-then-least_length-eq0 : goal.returns-then-least_length-eq0
returns-then-least_length-eq0 g c =
    let split = first_and_rest c.args.pattern.now c.split_at.result.0.now c.split_at.result.1.now c.first_length.result
    c.first_length.ensures.value c.split_at.ensures.front c.split_at.ensures.back in
    let none = sym c.least_length.ensures.value ∙ c.if-least_length-eq0.true in
    let same = ap (λ (empty : Bool). is_piece c.args.field c.split_at.result.0.now (not empty)) c.is_empty.ensures
    ∙ sym (like_one c.args.field c.args.pattern.now c.split_at.result.0.now c.split_at.result.1.now split none) in
    prepends_as c.prepend_piece.result _ (λ all written. written_as same written) c.prepend_piece.ensures

pub returns-then-total-width : goal.returns-then-total-width
returns-then-total-width g c =
    let split = first_and_rest c.args.pattern.now c.split_at.result.0.now c.split_at.result.1.now c.first_length.result
    c.first_length.ensures.value c.split_at.ensures.front c.split_at.ensures.back in
    let some : 0 < least_length c.split_at.result.1.now = omega arith in
    let long : c.args.field.width < least_length c.args.pattern.now = omega arith in
    let same = sym (like_long c.args.field c.args.pattern.now c.split_at.result.0.now c.split_at.result.1.now split some long) in
    prepends_as c.prepend_constant.result _ (λ all written. written_as same written) c.prepend_constant.ensures

pub overflow_cast-first : goal.overflow_cast-first
overflow_cast-first g c =
    let split = first_and_rest c.args.pattern.now c.split_at.result.0.now c.split_at.result.1.now c.first_length.result
    c.first_length.ensures.value c.split_at.ensures.front c.split_at.ensures.back in
    let takes = split.takes in
    let within = c.requires.is_field.0 in
    omega arith

pub prepend_search-requires-clause-begins : goal.prepend_search-requires-clause-begins
prepend_search-requires-clause-begins g c =
    (first_and_rest c.args.pattern.now c.split_at.result.0.now c.split_at.result.1.now c.first_length.result
    c.first_length.ensures.value c.split_at.ensures.front c.split_at.ensures.back).first

pub prepend_search-requires-clause-fits : goal.prepend_search-requires-clause-fits
prepend_search-requires-clause-fits g c =
    let split = first_and_rest c.args.pattern.now c.split_at.result.0.now c.split_at.result.1.now c.first_length.result
    c.first_length.ensures.value c.split_at.ensures.front c.split_at.ensures.back in
    let takes = split.takes in
    omega arith

pub returns-in_err-prepend_search : goal.returns-in_err-prepend_search
returns-in_err-prepend_search g c =
    let split = first_and_rest c.args.pattern.now c.split_at.result.0.now c.split_at.result.1.now c.first_length.result
    c.first_length.ensures.value c.split_at.ensures.front c.split_at.ensures.back in
    let some : 0 < least_length c.split_at.result.1.now = omega arith in
    let short : least_length c.args.pattern.now ≤ c.args.field.width = omega arith in
    let counted : c.from-width.result - c.least_length-total.result + 1 ≡ c.args.field.width - least_length c.args.pattern.now + 1 = omega arith in
    let same = sym (like_several c.args.field c.args.pattern.now c.split_at.result.0.now c.split_at.result.1.now
    (c.from-width.result - c.least_length-total.result + 1) split some short counted) in
    prepends_refused c.from_residual.result _ c.from_residual.ensures.1
    (refuses_as (λ all written. written_as same written)
    (second_refused {neutral = true} {first = are_required c.args.field.offset c.split_at.result.0.now} c.in_err-prepend_search.ensures))

pub prepend_are_required-requires-clause-fits : goal.prepend_are_required-requires-clause-fits
prepend_are_required-requires-clause-fits g c =
    let split = first_and_rest c.args.pattern.now c.split_at.result.0.now c.split_at.result.1.now c.first_length.result
    c.first_length.ensures.value c.split_at.ensures.front c.split_at.ensures.back in
    let takes = split.takes in
    omega arith

pub prepend_are_required-requires-clause-short : goal.prepend_are_required-requires-clause-short
prepend_are_required-requires-clause-short g c =
    let split = first_and_rest c.args.pattern.now c.split_at.result.0.now c.split_at.result.1.now c.first_length.result
    c.first_length.ensures.value c.split_at.ensures.front c.split_at.ensures.back in
    let takes = split.takes in
    omega arith

pub returns : goal.returns
returns g c =
    let split = first_and_rest c.args.pattern.now c.split_at.result.0.now c.split_at.result.1.now c.first_length.result
    c.first_length.ensures.value c.split_at.ensures.front c.split_at.ensures.back in
    let some : 0 < least_length c.split_at.result.1.now = omega arith in
    let short : least_length c.args.pattern.now ≤ c.args.field.width = omega arith in
    let counted : c.from-width.result - c.least_length-total.result + 1 ≡ c.args.field.width - least_length c.args.pattern.now + 1 = omega arith in
    let same = sym (like_several c.args.field c.args.pattern.now c.split_at.result.0.now c.split_at.result.1.now
    (c.from-width.result - c.least_length-total.result + 1) split some short counted) in
    prepends_as c.prepend_are_required.result _
    (λ all front. written_as same
    (joined c.words-words.ensures.value c.in_ok-prepend_search.ensures c.exits_before-exits.ensures.before front))
    c.prepend_are_required.ensures
