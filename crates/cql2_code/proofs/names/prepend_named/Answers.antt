use Rattle.std.proofs.Common.{◌≡◌, ℕ, suc, ◌+◌, ◌-◌, sym, ap, ◌∙◌, arith}
use Rattle.cql2_code.proofs.PartsWritten.{is_named_from-none, is_named_from-refused}
use Rattle.cql2_code.proofs.Refused.{prepends_refused, refuses_as}
use Rattle.cql2_code.proofs.Written.{written_as}
use Rattle.cql2_code.specs.Function.{is_named_from}
use Rattle.cql2_code.proofs.names.prepend_named.Goals as goal

pub loop-name-init : goal.loop-name-init
loop-name-init g c =
    let none : c.args.most - c.args.most ≡ 0 = omega arith in (
      c.words-end.ensures.value,
      written_as
          (sym (ap (is_named_from c.args.required.now (c.args.most + 1)) none ∙ is_named_from-none c.args.required.now (c.args.most + 1)))
          c.in_ok-prepend_constant.ensures,
    )

pub loop-name-preserved : goal.loop-name-preserved
loop-name-preserved g c =
    let here : c.loop-name.name ≡ c.loop-name.name - 1 + 1 = omega arith in
    let more : suc (c.args.most - c.loop-name.name) ≡ c.args.most - (c.loop-name.name - 1) = omega arith in (
      c.words-end.ensures.value,
      written_as
          (ap (λ (at : ℕ). is_named_from c.args.required.now at (suc (c.args.most - c.loop-name.name))) here
          ∙ ap (is_named_from c.args.required.now (c.loop-name.name - 1 + 1)) more)
          (c.in_ok-prepend_name.ensures (c.args.most - c.loop-name.name) c.args.code.now (sym c.words-end.ensures.value)
          c.loop-name.invariant.1),
    )

pub returns-in_ok-prepend_name : goal.returns-in_ok-prepend_name
returns-in_ok-prepend_name g c =
    let here : c.loop-name.name ≡ 0 = omega arith in
    let all : suc (c.args.most - c.loop-name.name) ≡ suc c.args.most = omega arith in
    written_as
    (ap (λ (at : ℕ). is_named_from c.args.required.now at (suc (c.args.most - c.loop-name.name))) here
    ∙ ap (is_named_from c.args.required.now 0) all)
    (c.in_ok-prepend_name.ensures (c.args.most - c.loop-name.name) c.args.code.now (sym c.words-end.ensures.value) c.loop-name.invariant.1)

pub returns-in_err-prepend_constant : goal.returns-in_err-prepend_constant
returns-in_err-prepend_constant g c =
    let none = sym (is_named_from-none c.args.required.now (suc c.args.most)) in
    let all : suc c.args.most ≡ suc c.args.most + 0 = omega arith in
    prepends_refused c.from_residual.result _ c.from_residual.ensures.1
    (is_named_from-refused c.args.required.now (suc c.args.most) 0 (suc c.args.most) all
    (refuses_as (λ all written. written_as none written) c.in_err-prepend_constant.ensures))

pub returns-in_err-prepend_name : goal.returns-in_err-prepend_name
returns-in_err-prepend_name g c =
    let more = c.args.most - c.loop-name.name in
    let all : suc c.args.most ≡ c.loop-name.name + suc more = omega arith in
    prepends_refused c.from_residual-in_err-prepend_name.result _ c.from_residual-in_err-prepend_name.ensures.1
    (is_named_from-refused c.args.required.now c.loop-name.name (suc more) (suc c.args.most) all
    (c.in_err-prepend_name.ensures more c.args.code.now (sym c.words-end.ensures.value) c.loop-name.invariant.1))
