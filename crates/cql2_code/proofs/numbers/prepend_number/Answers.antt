use Rattle.std.proofs.Common.{◌≡◌, ℤ, true, sym, ap, ◌∙◌}
use Rattle.std.proofs.Common.{w64}
use Rattle.std.proofs.lemmas.Int.{to_z-of_z}
use Rattle.cql2_code.proofs.Refused.{prepends_as, prepends_refused, refuses_as, second_refused_if}
use Rattle.cql2_code.proofs.Written.{joined, written_as}
use Rattle.cql2_code.specs.Lowering.{holds_of_zero, test}
use Rattle.cql2_code.specs.declared.question.Subject.{Subject}
use Rattle.cql2_code.proofs.numbers.prepend_number.Goals as goal

pub returns : goal.returns
returns g c =
    let zero : holds_of_zero c.args.comparison c.args.literal ≡ true =
    ap (holds_of_zero c.args.comparison) (sym (to_z-of_z w64 c.args.literal c.ranges.literal)) ∙ sym c.holds_of_zero.ensures
    ∙ c.if-not-holds_of_zero.false in
    let number =
    ap (λ (z : ℤ). test c.number_of.result c.args.comparison z) (to_z-of_z w64 c.args.literal c.ranges.literal)
    ∙ ap (λ (subject : Subject). test subject c.args.comparison c.args.literal) c.number_of.ensures in
    rw zero
    (prepends_as c.prepend_test-2.result _
    (λ all has. joined c.words-words.ensures.value (written_as number c.in_ok-prepend_test.ensures) c.exits_before-exits.ensures.before
    (written_as c.has_value.ensures has))
    c.prepend_test-2.ensures)

pub returns-in_err-prepend_test : goal.returns-in_err-prepend_test
returns-in_err-prepend_test g c =
    let number =
    ap (λ (z : ℤ). test c.number_of.result c.args.comparison z) (to_z-of_z w64 c.args.literal c.ranges.literal)
    ∙ ap (λ (subject : Subject). test subject c.args.comparison c.args.literal) c.number_of.ensures in
    prepends_refused c.from_residual.result _ c.from_residual.ensures.1
    (second_refused_if _ _ (holds_of_zero c.args.comparison c.args.literal)
    (refuses_as (λ all written. written_as number written) c.in_err-prepend_test.ensures))
