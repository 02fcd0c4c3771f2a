use Rattle.std.proofs.Common.{◌≡◌, ◌<◌, ◌++◌, ℤ, ℕ, List, length, arith, drop, rules, take-append-drop, sym, ap, ◌∙◌, w64}
use Rattle.std.proofs.lemmas.Bool.{eqb-false}
use Rattle.std.proofs.lemmas.Int.{to_z-of_z}
use Rattle.std.specs.Prelude.{FitsSigned}
use Rattle.cql2.specs.declared.filter.Comparison.TheVariants.{Equal}
use Rattle.cql2_code.specs.Lowering.{test}
use Rattle.cql2_code.specs.declared.question.Chunk.TheVariants.{DoubleWord}
use Rattle.cql2_code.specs.declared.question.Subject.TheVariants.{Load}
use Rattle.cql2_code.proofs.ChunkLemmas.{has_bytes-more}
use Rattle.cql2_code.proofs.Refused.{prepends_as, prepends_refused, refuses_as, second_refused}
use Rattle.cql2_code.proofs.Written.{joined, written_as}
use Rattle.cql2_code.proofs.texts.+prepend_bytes.Goals as goal

pub returns : goal.returns
returns g t c =
    let split = c.in-Some.ensures.cases in
    let tested = sym c.is_empty.ensures ∙ c.if-is_empty.false in
    let other = eqb-false (length c.in-Some.rest.now) 0 tested in
    let some : 0 < length c.in-Some.rest.now = omega arith in
    let parts : c.args.bytes.now ≡ c.in-Some.first.now ++ c.in-Some.rest.now =
    sym (take-append-drop 8 c.args.bytes.now)
    ∙ ap (λ (front : List ℕ). front ++ drop 8 c.args.bytes.now) (sym split.1)
    ∙ ap (λ (back : List ℕ). c.in-Some.first.now ++ back) (sym split.2) in
    let more = has_bytes-more c.args.at c.args.bytes.now c.in-Some.first.now c.in-Some.rest.now parts split.3 some in
    let fits : FitsSigned w64 c.double_word.result = search rules in
    let number =
    ap (λ (z : ℤ). test (Load DoubleWord c.args.at) Equal z) (to_z-of_z w64 c.double_word.result fits ∙ c.double_word.ensures) in
    prepends_as c.prepend_test-2.result _
    (λ all front. written_as (sym more)
    (joined c.words-words.ensures.value c.in_ok-prepend_bytes.ensures c.exits_before-exits.ensures.before (written_as number front)))
    c.prepend_test-2.ensures

pub returns-in_err-prepend_bytes : goal.returns-in_err-prepend_bytes
returns-in_err-prepend_bytes g t c =
    let split = c.in-Some.ensures.cases in
    let other = eqb-false (length c.in-Some.rest.now) 0 (sym c.is_empty.ensures ∙ c.if-is_empty.false) in
    let some : 0 < length c.in-Some.rest.now = omega arith in
    let parts : c.args.bytes.now ≡ c.in-Some.first.now ++ c.in-Some.rest.now =
    sym (take-append-drop 8 c.args.bytes.now)
    ∙ ap (λ (front : List ℕ). front ++ drop 8 c.args.bytes.now) (sym split.1)
    ∙ ap (λ (back : List ℕ). c.in-Some.first.now ++ back) (sym split.2) in
    let more = has_bytes-more c.args.at c.args.bytes.now c.in-Some.first.now c.in-Some.rest.now parts split.3 some in
    prepends_refused c.from_residual.result _ c.from_residual.ensures.1
    (refuses_as (λ all written. written_as (sym more) written) (second_refused c.in_err-prepend_bytes.ensures))
