use Rattle.std.proofs.Common.{ap, ◌∙◌, List, w64}
use Rattle.std.proofs.lemmas.Int.{to_z-of_z}
use Rattle.cql2.specs.declared.filter.Comparison.{Comparison}
use Rattle.std.specs.Prelude.{ℕ}
use Rattle.cql2_code.specs.Expressions.{compares_numbers}
use Rattle.cql2_code.specs.Lowering.{compares_columns, compares_number, compares_text}
use Rattle.cql2_code.proofs.Compiled.{asks_as}
use Rattle.cql2_code.proofs.Refused.{prepends_as}
use Rattle.cql2_code.proofs.Written.{written_as}
use Rattle.cql2_code.proofs.compiler.prepend_leaf.Goals as goal

pub returns-in-Constant : goal.returns-in-Constant
returns-in-Constant g c =
    prepends_as c.prepend_constant.result _
    (λ all written. asks_as c.args.asked c.in-Constant.is written)
    c.prepend_constant.ensures

pub returns-in-IsNull : goal.returns-in-IsNull
returns-in-IsNull g c =
    prepends_as c.prepend_is_null.result _
    (λ all written. asks_as c.args.asked c.in-IsNull.is written)
    c.prepend_is_null.ensures

pub returns-in-CompareNumber : goal.returns-in-CompareNumber
returns-in-CompareNumber g c =
    let column = c.in-CompareNumber.column in
    let number = c.in-CompareNumber.literal.number in
    let same =
    ap (compares_number column c.asked_for-comparison.result) (to_z-of_z w64 number c.in-CompareNumber.literal.fits)
    ∙ ap (λ (comparison : Comparison). compares_number column comparison number) c.asked_for-comparison.ensures in
    prepends_as c.prepend_number.result _
    (λ all written. asks_as c.args.asked c.in-CompareNumber.is (written_as same written))
    c.prepend_number.ensures

pub returns-in-CompareText : goal.returns-in-CompareText
returns-in-CompareText g c =
    let column = c.in-CompareText.column in
    let same =
    ap (λ (text : List ℕ). compares_text column c.asked_for-comparison-in-CompareText.result text) c.as_slice.ensures.value
    ∙ ap (λ (comparison : Comparison). compares_text column comparison c.in-CompareText.text.bytes.items)
    c.asked_for-comparison-in-CompareText.ensures in
    prepends_as c.prepend_text.result _
    (λ all written. asks_as c.args.asked c.in-CompareText.is (written_as same written))
    c.prepend_text.ensures

pub returns-in-CompareNumbers : goal.returns-in-CompareNumbers
returns-in-CompareNumbers g c =
    let first = c.in-CompareNumbers.first.expression in
    let second = c.in-CompareNumbers.second.expression in
    let same =
    ap (λ (comparison : Comparison). compares_numbers first comparison second) c.asked_for-comparison-in-CompareNumbers.ensures in
    prepends_as c.prepend_numbers.result _
    (λ all written. asks_as c.args.asked c.in-CompareNumbers.is (written_as same written))
    c.prepend_numbers.ensures

pub returns-in-CompareTexts : goal.returns-in-CompareTexts
returns-in-CompareTexts g c =
    let first = c.in-CompareTexts.first in
    let second = c.in-CompareTexts.second in
    let same =
    ap (λ (comparison : Comparison). compares_columns first comparison second) c.asked_for-comparison-in-CompareTexts.ensures in
    prepends_as c.prepend_columns.result _
    (λ all written. asks_as c.args.asked c.in-CompareTexts.is (written_as same written))
    c.prepend_columns.ensures

pub returns-in-Like : goal.returns-in-Like
returns-in-Like g c =
    prepends_as c.prepend_like.result _
    (λ all written. asks_as c.args.asked c.in-Like.is written)
    c.prepend_like.ensures
