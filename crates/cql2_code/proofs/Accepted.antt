-- The verifier accepts a question's code: its jumps go forward, and what each instruction needs is known before it.
use Rattle.std.proofs.Common.{◌≡◌, ℕ, ◌+◌, ℤ, pos, Bool, true, false, not, is_some, List, [], ◌∷◌, if◌then◌else◌, refl}
use Rattle.std.proofs.Common.{ap, ◌∙◌, subst, arith}
use Rattle.std.specs.Prelude.{FitsSigned, nat_le}
use Rattle.std.specs.Bool.{beq}
use Rattle.std.specs.Int.{w64}
use Rattle.bpf_insn.specs.Arithmetic.{immediate_operand}
use Rattle.bpf_insn.specs.Code.{word_count}
use Rattle.bpf_insn.specs.declared.instruction.Insn.{Insn}
use Rattle.bpf_insn.specs.declared.instruction.Source.{Source}
use Rattle.bpf_insn.specs.declared.instruction.Source.TheVariants.{Immediate, Register}
use Rattle.cql2.specs.declared.filter.Comparison.{Comparison}
use Rattle.cql2_code.specs.Layout.{comparison_code, is_narrow, jump, question_code, from_argument_1}
use Rattle.cql2_code.specs.Layout.{into_argument_1, opposite, skip_if, subject_code, test_code, wide_load}
use Rattle.cql2_code.specs.Question.{IsSoundTest, Question, Decided, Holds, Opposite, Joined, Coded, condition_of}
use Rattle.cql2_code.specs.declared.question.Test.{Test}
use Rattle.cql2_code.proofs.AbstractState.{answered, before_compare, compared, resting, state_before}
use Rattle.cql2_code.proofs.Operands.{operand_fits}
use Rattle.cql2_code.proofs.Passes.{needed_by, needed_by-append}
use Rattle.cql2_code.proofs.Passes.{passes_wide_load_1, subject_passes, subject_rests}
use Rattle.cql2_code.proofs.Blocks.{IsSound, Keeps, Settled, keeps_back, keeps_front}
use Rattle.cql2_code.proofs.Codes.{Pair, skip_first, comparison_by, comparison_is, first_code, first_placed, jumping, second_code}
use Rattle.cql2_code.proofs.Codes.{second_placed, skip_by, skip_is}
use Rattle.cql2_code.proofs.Steps.{HasAt, has_front}
use Rattle.cql2_code.proofs.Good.{AreGoodAt, BranchAt, Rests, all_good, good-append, good_branch, good_jump, good_passes}
use Rattle.cql2_code.proofs.Good.{IsOperand, is_immediate, is_register, needs_at}

module _ (keeps : Bool) where
  -- a place with instructions that need nothing more, possibly none, needs nothing more
  pub rests_at : (code : List Insn) (place : ℕ) (insns : List Insn) → HasAt code place insns → needed_by keeps insns (resting keeps) ≡ resting keeps
      → Rests keeps code (place + word_count insns) → Rests keeps code place
  rests_at code place [] has needs end = let e : place + 0 ≡ place = omega arith in subst (Rests keeps code) e end
  rests_at code place (insn ∷ rest) has needs end = record { begins = ap is_some has.0; needs = ap (state_before keeps) has.0 ∙ needs }

  -- the words that a comparison skips

  skip_by_needs : (near : Bool) (comparison : Comparison) (operand : Source) (skip : ℕ)
      → needed_by keeps (skip_by near comparison operand skip) (resting keeps) ≡ before_compare keeps operand
  skip_by_needs true comparison operand skip = refl
  skip_by_needs false comparison operand skip = refl

  pub skip_needs : (comparison : Comparison) (operand : Source) (skip : ℕ)
      → needed_by keeps (skip_if comparison operand skip) (resting keeps) ≡ before_compare keeps operand
  skip_needs comparison operand skip =
      subst (λ (insns : List Insn). needed_by keeps insns (resting keeps) ≡ before_compare keeps operand) (skip_is comparison operand skip)
      (skip_by_needs (nat_le skip 32767) comparison operand skip)

  skip_by_good : (code : List Insn) (place : ℕ) (near : Bool) (comparison : Comparison) (operand : Source) (skip : ℕ) → IsOperand operand
      → (let insns = skip_by near comparison operand skip in Settled keeps code place insns skip → AreGoodAt keeps code place insns)
  skip_by_good code place true comparison operand skip is placed =
      let branch : BranchAt keeps code place (condition_of comparison) operand skip = record {
        at = placed.has.0;
        next = placed.end;
        target = placed.target;
      } in (good_branch keeps code place (condition_of comparison) operand skip is branch, tt)
  skip_by_good code place false comparison operand skip is placed =
      let e : place + 2 ≡ place + 1 + 1 = omega arith in
      let branch : BranchAt keeps code place (condition_of (opposite comparison)) operand 1 = record {
        at = placed.has.0;
        next = record { begins = ap is_some placed.has.1.0; needs = ap (state_before keeps) placed.has.1.0 };
        target = subst (Rests keeps code) e placed.end;
      } in (
        good_branch keeps code place (condition_of (opposite comparison)) operand 1 is branch,
        (good_jump keeps code (place + 1) skip placed.has.1.0 (subst (λ (p : ℕ). Rests keeps code (p + skip)) e placed.target), tt),
      )

  pub skip_good : (code : List Insn) (place : ℕ) (comparison : Comparison) (operand : Source) (skip : ℕ) → IsOperand operand
      → (let insns = skip_if comparison operand skip in Settled keeps code place insns skip → AreGoodAt keeps code place insns)
  skip_good code place comparison operand skip is =
      subst (λ (insns : List Insn). Settled keeps code place insns skip → AreGoodAt keeps code place insns) (skip_is comparison operand skip)
      (skip_by_good code place (nat_le skip 32767) comparison operand skip is)

  -- the code of a comparison needs a number in register 0

  comparison_by_needs : (narrow : Bool) (comparison : Comparison) (operand : ℤ) (skip : ℕ)
      → needed_by keeps (comparison_by narrow comparison operand skip) (resting keeps) ≡ answered keeps
  comparison_by_needs true comparison operand skip = skip_needs comparison (Immediate operand) skip
  comparison_by_needs false comparison operand skip = refl

  pub comparison_needs : (comparison : Comparison) (operand : ℤ) (skip : ℕ)
      → needed_by keeps (comparison_code comparison operand skip) (resting keeps) ≡ answered keeps
  comparison_needs comparison operand skip =
      subst (λ (insns : List Insn). needed_by keeps insns (resting keeps) ≡ answered keeps) (comparison_is comparison operand skip)
      (comparison_by_needs (is_narrow operand) comparison operand skip)

  wide_good : (code : List Insn) (place : ℕ) (comparison : Comparison) (operand : ℤ) (skip : ℕ) → FitsSigned w64 operand
      → (let insns = comparison_by false comparison operand skip in Settled keeps code place insns skip → AreGoodAt keeps code place insns)
  wide_good code place comparison operand skip fits placed =
      let loads = wide_load into_argument_1 (immediate_operand operand) in
      let skips = skip_if comparison (Register from_argument_1) skip in
      let after = second_placed (Rests keeps code) code place (loads ∷ []) skips skip placed in
      let needs = needs_at keeps code (place + 2) skips (resting keeps) after.has after.end.needs
      ∙ skip_needs comparison (Register from_argument_1) skip in
      let passes = passes_wide_load_1 keeps (immediate_operand operand) (operand_fits operand fits) in (
        good_passes keeps code place loads (compared keeps) placed.has.0 needs passes,
        skip_good code (place + 2) comparison (Register from_argument_1) skip is_register after,
      )

  comparison_by_good : (code : List Insn) (place : ℕ) (narrow : Bool) (comparison : Comparison) (operand : ℤ) (skip : ℕ)
      → FitsSigned w64 operand
      → (let insns = comparison_by narrow comparison operand skip in Settled keeps code place insns skip → AreGoodAt keeps code place insns)
  comparison_by_good code place true comparison operand skip fits = skip_good code place comparison (Immediate operand) skip (is_immediate operand)
  comparison_by_good code place false comparison operand skip fits = wide_good code place comparison operand skip fits

  pub comparison_good : (code : List Insn) (place : ℕ) (comparison : Comparison) (operand : ℤ) (skip : ℕ) → FitsSigned w64 operand
      → (let insns = comparison_code comparison operand skip in Settled keeps code place insns skip → AreGoodAt keeps code place insns)
  comparison_good code place comparison operand skip fits =
      subst (λ (insns : List Insn). Settled keeps code place insns skip → AreGoodAt keeps code place insns) (comparison_is comparison operand skip)
      (comparison_by_good code place (is_narrow operand) comparison operand skip fits)

  -- the code of a test needs nothing more

  pub test_needs : (test : Test) (falls : Bool) (skip : ℕ) → needed_by keeps (test_code test falls skip) (resting keeps) ≡ resting keeps
  test_needs test falls skip =
      let back = comparison_code (jumping test falls) test.operand skip in
      needed_by-append keeps (subject_code test.subject) back (resting keeps)
      ∙ ap (needed_by keeps (subject_code test.subject)) (comparison_needs (jumping test falls) test.operand skip) ∙ subject_rests keeps test.subject

  pub test_good : (code : List Insn) (test : Test) (falls : Bool) (skip place : ℕ) → IsSoundTest test
      → Settled keeps code place (test_code test falls skip) skip → AreGoodAt keeps code place (test_code test falls skip)
  test_good code test falls skip place sound placed =
      let front = subject_code test.subject in
      let back = comparison_code (jumping test falls) test.operand skip in
      let after = second_placed (Rests keeps code) code place front back skip placed in
      let needs = needs_at keeps code (place + word_count front) back (resting keeps) after.has after.end.needs
      ∙ comparison_needs (jumping test falls) test.operand skip in
      good-append keeps code place front back
      (all_good keeps code place front (answered keeps) (has_front code place front back placed.has) needs (subject_passes keeps test.subject sound.subject))
      (comparison_good code (place + word_count front) (jumping test falls) test.operand skip sound.operand after)

  -- nor does the code of a decided question

  pub decided_needs : (found falls : Bool) (skip : ℕ) → needed_by keeps (question_code (Decided found) falls skip) (resting keeps) ≡ resting keeps
  decided_needs true true skip = refl
  decided_needs true false skip = refl
  decided_needs false true skip = refl
  decided_needs false false skip = refl

  pub decided_good : (code : List Insn) (found falls : Bool) (skip place : ℕ)
      → Settled keeps code place (question_code (Decided found) falls skip) skip
      → AreGoodAt keeps code place (question_code (Decided found) falls skip)
  decided_good code found falls skip place placed = by_test (beq found falls) placed
    where
      code_of : Bool → List Insn
      code_of same = if same then [] else jump (pos skip) ∷ []

      by_test : (same : Bool) → Settled keeps code place (code_of same) skip → AreGoodAt keeps code place (code_of same)
      by_test true placed = tt
      by_test false placed = (good_jump keeps code place skip placed.has.0 placed.target, tt)

  -- the code of a question needs only the record's pointer, and each of its instructions is good

  pub question_needs : (question : Question) (falls : Bool) (skip : ℕ) → IsSound question
      → needed_by keeps (question_code question falls skip) (resting keeps) ≡ resting keeps
  question_needs (Decided found) falls skip sound = decided_needs found falls skip
  question_needs (Holds test) falls skip sound = test_needs test falls skip
  question_needs (Opposite question) falls skip sound = question_needs question (not falls) skip sound
  question_needs (Coded block) falls skip sound = sound.needs keeps falls skip
  question_needs (Joined neutral first second) falls skip sound =
      let pair : Pair = record { neutral = neutral; first = first; second = second; falls = falls; skip = skip } in
      needed_by-append keeps (first_code pair) (second_code pair) (resting keeps)
      ∙ ap (needed_by keeps (first_code pair)) (question_needs second falls skip sound.1)
      ∙ question_needs first neutral (skip_first pair) sound.0

  pub question_good : (code : List Insn) (question : Question) (falls : Bool) (skip place : ℕ) → IsSound question
      → Keeps keeps (question_code question falls skip)
      → Settled keeps code place (question_code question falls skip) skip → AreGoodAt keeps code place (question_code question falls skip)
  question_good code (Decided found) falls skip place sound saved placed = decided_good code found falls skip place placed
  question_good code (Holds test) falls skip place sound saved placed = test_good code test falls skip place sound placed
  question_good code (Opposite question) falls skip place sound saved placed = question_good code question (not falls) skip place sound saved placed
  question_good code (Coded block) falls skip place sound saved placed = sound.good keeps code falls skip place saved placed
  question_good code (Joined neutral first second) falls skip place sound saved placed =
      let pair : Pair = record { neutral = neutral; first = first; second = second; falls = falls; skip = skip } in
      let middle = place + word_count (first_code pair) in
      let after = second_placed (Rests keeps code) code place (first_code pair) (second_code pair) skip placed in
      let end = rests_at code middle (second_code pair) after.has (question_needs second falls skip sound.1) after.end in
      let before = first_placed (Rests keeps code) code place pair placed end in
      let front = keeps_front keeps (first_code pair) (second_code pair) saved in
      let back = keeps_back keeps (first_code pair) (second_code pair) saved in
      good-append keeps code place (first_code pair) (second_code pair)
      (question_good code first neutral (skip_first pair) place sound.0 front before)
      (question_good code second falls skip middle sound.1 back after)
