use Rattle.std.proofs.Common.{◌≡◌, ℕ, suc, ◌+◌, ◌-◌, refl, sym, ap, ◌∙◌, arith}
use Rattle.tl_segments.specs.declared.limits.TheConstants.{MAX_RANGES}
use Rattle.cql2_code.proofs.PartsWritten.{lies_from-none, lies_from-refused}
use Rattle.cql2_code.proofs.Refused.{prepends_refused, refuses_as}
use Rattle.cql2_code.proofs.Written.{asked_written, written_as}
use Rattle.cql2_code.specs.Function.{lies_from}
use Rattle.cql2_code.proofs.names.prepend_has_number.Goals as goal

pub loop-range-init : goal.loop-range-init
loop-range-init g c = (c.words-end.ensures.value, written_as (sym (lies_from-none c.args.house 1001)) c.in_ok-prepend_constant.ensures)

pub loop-range-preserved : goal.loop-range-preserved
loop-range-preserved g c =
    let here : c.loop-range.range ≡ c.loop-range.range - 1 + 1 = omega arith in
    let more : suc (MAX_RANGES - c.loop-range.range) ≡ MAX_RANGES - (c.loop-range.range - 1) = omega arith in (
      c.words-end.ensures.value,
      written_as
          (ap (λ (at : ℕ). lies_from c.args.house at (suc (MAX_RANGES - c.loop-range.range))) here
          ∙ ap (lies_from c.args.house (c.loop-range.range - 1 + 1)) more)
          (c.in_ok-prepend_range.ensures (MAX_RANGES - c.loop-range.range) c.args.code.now (sym c.words-end.ensures.value)
          c.loop-range.invariant.1),
    )

pub returns-in_ok-prepend_range : goal.returns-in_ok-prepend_range
returns-in_ok-prepend_range g c =
    let here : c.loop-range.range ≡ 0 = omega arith in
    let all : suc (MAX_RANGES - c.loop-range.range) ≡ suc MAX_RANGES = omega arith in
    asked_written c.args.asked c.if_asked-exits.ensures.falls c.if_asked-exits.ensures.skip
    (written_as
    (ap (λ (at : ℕ). lies_from c.args.house at (suc (MAX_RANGES - c.loop-range.range))) here ∙ ap (lies_from c.args.house 0) all)
    (c.in_ok-prepend_range.ensures (MAX_RANGES - c.loop-range.range) c.args.code.now (sym c.words-end.ensures.value) c.loop-range.invariant.1))

pub returns-in_err-prepend_constant : goal.returns-in_err-prepend_constant
returns-in_err-prepend_constant g c =
    let none = sym (lies_from-none c.args.house 1001) in
    prepends_refused c.from_residual.result _ c.from_residual.ensures.1
    (refuses_as (λ all written. asked_written c.args.asked c.if_asked-exits.ensures.falls c.if_asked-exits.ensures.skip written)
    (lies_from-refused c.args.house 1001 0 (suc MAX_RANGES) refl
    (refuses_as (λ all written. written_as none written) c.in_err-prepend_constant.ensures)))

pub returns-in_err-prepend_range : goal.returns-in_err-prepend_range
returns-in_err-prepend_range g c =
    let more = MAX_RANGES - c.loop-range.range in
    let all : suc MAX_RANGES ≡ c.loop-range.range + suc more = omega arith in
    prepends_refused c.from_residual-in_err-prepend_range.result _ c.from_residual-in_err-prepend_range.ensures.1
    (refuses_as (λ all written. asked_written c.args.asked c.if_asked-exits.ensures.falls c.if_asked-exits.ensures.skip written)
    (lies_from-refused c.args.house c.loop-range.range (suc more) (suc MAX_RANGES) all
    (c.in_err-prepend_range.ensures more c.args.code.now (sym c.words-end.ensures.value) c.loop-range.invariant.1)))
