use Rattle.std.proofs.Common.{◌<◌, ◌^◌, ℤ, sym, ap, ◌∙◌, arith}
use Rattle.cql2.specs.declared.filter.Comparison.TheVariants.{GreaterOrEqual}
use Rattle.cql2_code.proofs.Casts.{unchanged_64}
use Rattle.cql2_code.proofs.PartsWritten.{is_named_from-here_refused, is_named_from-milestone, is_named_from-more}
use Rattle.cql2_code.proofs.Refused.{prepends_as, prepends_refused, refuses_as}
use Rattle.cql2_code.proofs.Written.{joined, written_as}
use Rattle.cql2_code.specs.Lowering.{test}
use Rattle.cql2_code.specs.declared.question.Subject.TheVariants.{Names}
use Rattle.cql2_code.proofs.names.prepend_name.Goals as goal

pub returns-then-not-checks_for_end : goal.returns-then-not-checks_for_end
returns-then-not-checks_for_end g c = λ more rest counted after.
    written_as (sym (is_named_from-more c.args.required.now c.args.name more (sym c.checks_for_end.ensures ∙ c.if-not-checks_for_end.true)))
    (joined (sym counted) after c.exits_before-before.ensures.before c.in_ok-prepend_test.ensures)

pub returns : goal.returns
returns g c =
    let is = sym c.checks_for_end.ensures ∙ c.if-not-checks_for_end.false in
    let small : c.args.name < 2 ^ 63 = let fits : c.args.name < 2 ^ 16 = c.ranges.name.fits in omega arith in
    let number = ap (λ (z : ℤ). test Names GreaterOrEqual z) (unchanged_64 c.from.result c.args.name c.from.ensures small) in
    λ more rest counted after. prepends_as c.prepend_test-2.result _
    (λ all there.
    written_as (sym (is_named_from-milestone c.args.required.now c.args.name more is))
    (joined (sym counted) (joined (sym counted) after c.exits_before-before.ensures.before c.in_ok-prepend_test.ensures)
    c.exits_before-before-2.ensures.before (written_as number there)))
    c.prepend_test-2.ensures

pub returns-in_err-prepend_test : goal.returns-in_err-prepend_test
returns-in_err-prepend_test g c = λ more rest counted after.
    prepends_refused c.from_residual.result _ c.from_residual.ensures.1
    (is_named_from-here_refused c.args.required.now c.args.name more
    (refuses_as (λ all front. joined (sym counted) after c.exits_before-before.ensures.before front) c.in_err-prepend_test.ensures))
