use Rattle.std.proofs.Common.{◌≡◌, ℕ, ◌+◌, ◌-◌, ◌==◌, true, false, ap, arith}
use Rattle.std.proofs.lemmas.Bool.{ne_eqb}
use Rattle.cql2_code.specs.Layout.{Refuses}
use Rattle.cql2_code.specs.Lowering.{is_blank}
use Rattle.cql2_code.specs.Question.{Joined, Opposite, Question}
use Rattle.cql2_code.specs.declared.field.Field.{Field}
use Rattle.cql2_code.proofs.Refused.{prepends_before_refused, refuses_as, second_refused}
use Rattle.cql2_code.proofs.Written.{before_second, joined, opposite_written, written_as}
use Rattle.cql2_code.proofs.texts.prepend_ending.Goals as goal

-- the last required byte is not a blank
abbrev is_last_filled : Field → ℕ → Question
is_last_filled field count = Opposite (is_blank (field.offset + (count - 1)) (field.width - (count - 1)))

-- the bytes after the required ones are blank
abbrev is_rest_blank : Field → ℕ → Question
is_rest_blank field count = is_blank (field.offset + count) (field.width - count)

pub returns-in_ok-prepend_blank-in-false-false-2-clause-before : goal.returns-in_ok-prepend_blank-in-false-false-2-clause-before
returns-in_ok-prepend_blank-in-false-false-2-clause-before g c = λ required all front.
    let from = c.saturating_sub-from-in-false-false.ensures in
    let last = ap (λ (n : ℕ). is_blank (c.args.field.offset + n) (c.args.field.width - n)) from in
    let ends = opposite_written c.if_asked-in-false-false.ensures.falls c.if_asked-in-false-false.ensures.skip
    (written_as last c.in_ok-prepend_blank-in-false-false.ensures) in
    let second = joined c.words-words.ensures.value ends c.exits_before-inner.ensures.before c.in_ok-prepend_blank-in-false-false-2.ensures in
    rw (c.in-false-false.is-0, c.in-false-false.is-1)
    (before_second c.words-words.ensures.value second c.exits_before-in-false-false.ensures.before required all front)

pub returns-in_err-prepend_blank-in-true-false-clause-before : goal.returns-in_err-prepend_blank-in-true-false-clause-before
returns-in_err-prepend_blank-in-true-false-clause-before g c =
    let count = c.args.ends.count in
    let from = c.saturating_sub-from.ensures in
    let last = ap (λ (n : ℕ). is_blank (c.args.field.offset + n) (c.args.field.width - n)) from in
    let refused : Refuses (is_last_filled c.args.field count) c.args.exits c.args.code.now c.in_err-prepend_blank-in-true-false.field-0.0 =
    refuses_as (λ all written. opposite_written c.if_asked.ensures.falls c.if_asked.ensures.skip (written_as last written))
    c.in_err-prepend_blank-in-true-false.ensures in
    rw (c.in-true-false.is-0, c.in-true-false.is-1)
    (prepends_before_refused c.from_residual.result _ c.from_residual.ensures.1 refused)

pub returns-in_err-prepend_blank-in-false-true-clause-before : goal.returns-in_err-prepend_blank-in-false-true-clause-before
returns-in_err-prepend_blank-in-false-true-clause-before g c =
    let short : (c.args.ends.count == c.args.field.width) ≡ false =
    ne_eqb c.args.ends.count c.args.field.width (λ same. omega arith) in
    let is = c.from_residual-in_err-prepend_blank-in-false-true.ensures.1 in
    rw (c.in-false-true.is-0, c.in-false-true.is-1, short)
    (prepends_before_refused c.from_residual-in_err-prepend_blank-in-false-true.result _ is c.in_err-prepend_blank-in-false-true.ensures)

pub returns-in_err-prepend_blank-in-false-false-clause-before : goal.returns-in_err-prepend_blank-in-false-false-clause-before
returns-in_err-prepend_blank-in-false-false-clause-before g c =
    let count = c.args.ends.count in
    let from = c.saturating_sub-from-in-false-false.ensures in
    let last = ap (λ (n : ℕ). is_blank (c.args.field.offset + n) (c.args.field.width - n)) from in
    let refused : Refuses (is_last_filled c.args.field count) c.args.exits c.args.code.now c.in_err-prepend_blank-in-false-false.field-0.0 =
    refuses_as
    (λ all written. opposite_written c.if_asked-in-false-false.ensures.falls c.if_asked-in-false-false.ensures.skip (written_as last written))
    c.in_err-prepend_blank-in-false-false.ensures in
    let is = c.from_residual-in_err-prepend_blank-in-false-false.ensures.1 in
    rw (c.in-false-false.is-0, c.in-false-false.is-1)
    (prepends_before_refused c.from_residual-in_err-prepend_blank-in-false-false.result _ is
    (second_refused {neutral = true} {first = is_rest_blank c.args.field count} refused))

pub returns-in_err-prepend_blank-in-false-false-2-clause-before : goal.returns-in_err-prepend_blank-in-false-false-2-clause-before
returns-in_err-prepend_blank-in-false-false-2-clause-before g c =
    let count = c.args.ends.count in
    let from = c.saturating_sub-from-in-false-false.ensures in
    let last = ap (λ (n : ℕ). is_blank (c.args.field.offset + n) (c.args.field.width - n)) from in
    let ends = opposite_written c.if_asked-in-false-false.ensures.falls c.if_asked-in-false-false.ensures.skip
    (written_as last c.in_ok-prepend_blank-in-false-false.ensures) in
    let both = Joined true (is_rest_blank c.args.field count) (is_last_filled c.args.field count) in
    let refused : Refuses both c.args.exits c.args.code.now c.in_err-prepend_blank-in-false-false-2.field-0.0 =
    refuses_as (λ all front. joined c.words-words.ensures.value ends c.exits_before-inner.ensures.before front)
    c.in_err-prepend_blank-in-false-false-2.ensures in
    let is = c.from_residual-in_err-prepend_blank-in-false-false-2.ensures.1 in
    rw (c.in-false-false.is-0, c.in-false-false.is-1)
    (prepends_before_refused c.from_residual-in_err-prepend_blank-in-false-false-2.result _ is refused)
