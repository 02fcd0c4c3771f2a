-- Runs of a question's code: they reach the exit that belongs to the answer.
use Rattle.std.proofs.Common.{◌≡◌, ℕ, ◌+◌, pos, Bool, true, false, not, is_some, List, [], ◌∷◌, if◌then◌else◌, refl, ap, ◌∙◌, subst}
use Rattle.std.proofs.Common.{arith}
use Rattle.std.specs.Prelude.{FitsSigned, nat_le}
use Rattle.std.specs.Bool.{beq}
use Rattle.std.specs.Int.{w64}
use Rattle.bpf_insn.specs.Arithmetic.{immediate_operand, condition_holds}
use Rattle.bpf_insn.specs.Code.{word_count}
use Rattle.bpf_insn.specs.declared.instruction.Insn.{Insn}
use Rattle.bpf_insn.specs.declared.instruction.Source.{Source}
use Rattle.bpf_insn.specs.declared.instruction.Source.TheVariants.{Immediate, Register}
use Rattle.bpf_insn.specs.declared.instruction.Width.TheVariants.{Bits64}
use Rattle.bpf_insn.proofs.PlaceLemmas.{word_count-append}
use Rattle.bpf_meaning.specs.Step.{after}
use Rattle.tl_segments.specs.Segment.{IsSegment}
use Rattle.cql2.specs.declared.filter.Comparison.{Comparison}
use Rattle.cql2_code.specs.Layout.{comparison_code, first_skip, is_narrow, jump, opposite, question_code, from_argument_1, subject_code, test_code}
use Rattle.cql2_code.specs.Layout.{into_argument_1}
use Rattle.cql2_code.specs.Layout.{skip_if, wide_load}
use Rattle.cql2_code.specs.Question.{IsSoundTest, Question, Decided, Holds, Opposite, Joined, Coded, answer, condition_of, is_so, joined}
use Rattle.cql2_code.specs.Question.{value as number_in}
use Rattle.cql2_code.specs.declared.question.Test.{Test}
use Rattle.cql2_code.proofs.Blocks.{IsSound}
use Rattle.cql2_code.proofs.Codes.{Joint, Pair, skip_first, comparison_by, comparison_is, first_code, first_placed, joint_of}
use Rattle.cql2_code.proofs.Codes.{jumping, jumps_on, second_code, second_placed, skip_by, skip_is}
use Rattle.cql2_code.proofs.Leads.{Arrives, IsAt, Leads, arrives_by, exit_of, leads_on}
use Rattle.cql2_code.proofs.Operands.{operand_fits, opposite_is_not, wide_is}
use Rattle.cql2_code.proofs.Steps.{with_0, with_1, Begins, BranchesOn, Does, JumpsAt, Reaches, Scratch, Setting, and_on, begins_at}
use Rattle.cql2_code.proofs.Steps.{branches_on_immediate, branches_on_register, has_front, jumps, loads_wide_1, running, state, stays, steps_on}
use Rattle.cql2_code.proofs.Subjects.{Takes, takes}

-- the condition of a test's jump, given the answer that falls through
pub taken_to : (comparison : Comparison) (falls : Bool) (x y end skip : ℕ)
    → (if condition_holds (condition_of (if falls then opposite comparison else comparison)) Bits64 x y then end + skip else end)
    ≡ exit_of falls (condition_holds (condition_of comparison) Bits64 x y) end skip
taken_to comparison true x y end skip =
    ap (λ (b : Bool). if b then end + skip else end) (opposite_is_not comparison x y)
    ∙ by_answer (condition_holds (condition_of comparison) Bits64 x y)
  where
    by_answer : (b : Bool) → (if not b then end + skip else end) ≡ exit_of true b end skip
    by_answer true = refl
    by_answer false = refl
taken_to comparison false x y end skip = by_answer (condition_holds (condition_of comparison) Bits64 x y)
  where
    by_answer : (b : Bool) → (if b then end + skip else end) ≡ exit_of false b end skip
    by_answer true = refl
    by_answer false = refl

-- the registers and the frame once register 0 holds the number that a test looks at
abbrev taken : Setting → Test → Scratch → Scratch
taken on test from = with_0 from (number_in test.subject on.segment)

-- whether a test's jump is taken
abbrev is_taken : Setting → Test → Bool → Bool
is_taken on test falls =
    condition_holds (condition_of (jumping test falls)) Bits64 (number_in test.subject on.segment) (immediate_operand test.operand)

-- the place that the jump reaches, given the place after it
abbrev jumped : Setting → Test → Bool → ℕ → ℕ → ℕ
jumped on test falls skip end = if is_taken on test falls then end + skip else end

-- the place that a comparison of two numbers leads to, given the place after its code
abbrev pub led : Comparison → ℕ → ℕ → ℕ → ℕ → ℕ
led comparison x y skip end = if condition_holds (condition_of comparison) Bits64 x y then end + skip else end

module _ (on : Setting) (scratch : Scratch) (operand : Source) (x y : ℕ) (jumps_by : BranchesOn on scratch operand x y) where
  far_reaches : (comparison : Comparison) (skip place : ℕ) → IsAt on.code place (skip_by false comparison operand skip) skip
      → Reaches on (running on scratch place) (running on scratch (led comparison x y skip (place + 2)))
  far_reaches comparison skip place placed =
      let first : JumpsAt on place (condition_of (opposite comparison)) operand 1 = record {
        at = placed.has.0;
        next = ap is_some placed.has.1.0;
        target = subst (Begins on.code) e placed.end;
      } in
      by_answer (condition_holds (condition_of comparison) Bits64 x y)
      (subst (λ (taken : Bool). running on scratch (if taken then place + 1 + 1 else place + 1) ≡ after on.code on.segment (state on scratch place))
      (opposite_is_not comparison x y) (jumps_by.jumps place 1 (condition_of (opposite comparison)) first))
    where
      e : place + 2 ≡ place + 1 + 1
      e = omega arith

      further : running on scratch (place + 2 + skip) ≡ after on.code on.segment (state on scratch (place + 1))
      further = ap (λ (p : ℕ). running on scratch (p + skip)) e
          ∙ jumps on scratch (place + 1) skip placed.has.1.0 (subst (λ (p : ℕ). Begins on.code (p + skip)) e placed.target)

      by_answer : (holds : Bool)
          → running on scratch (if not holds then place + 1 + 1 else place + 1) ≡ after on.code on.segment (state on scratch place)
          → Reaches on (running on scratch place) (running on scratch (if holds then place + 2 + skip else place + 2))
      by_answer true step =
          steps_on on _ (running on scratch (place + 1)) _ step
          (steps_on on _ (running on scratch (place + 2 + skip)) _ further (stays on (running on scratch (place + 2 + skip))))
      by_answer false step =
          steps_on on _ (running on scratch (place + 2)) _ (ap (running on scratch) e ∙ step) (stays on (running on scratch (place + 2)))

  skip_by_reaches : (near : Bool) (comparison : Comparison) (skip place : ℕ) → IsAt on.code place (skip_by near comparison operand skip) skip
      → Reaches on (running on scratch place)
      (running on scratch (led comparison x y skip (place + word_count (skip_by near comparison operand skip))))
  skip_by_reaches true comparison skip place placed =
      let step = jumps_by.jumps place skip (condition_of comparison)
      (record { at = placed.has.0; next = placed.end; target = placed.target }) in
      steps_on on _ (running on scratch (led comparison x y skip (place + 1))) _ step
      (stays on (running on scratch (led comparison x y skip (place + 1))))
  skip_by_reaches false comparison skip place placed = far_reaches comparison skip place placed

  -- a comparison changes no register
  pub skip_reaches : (comparison : Comparison) (skip place : ℕ) → IsAt on.code place (skip_if comparison operand skip) skip
      → Reaches on (running on scratch place)
      (running on scratch (led comparison x y skip (place + word_count (skip_if comparison operand skip))))
  skip_reaches comparison skip place =
      subst (λ (insns : List Insn). IsAt on.code place insns skip
      → Reaches on (running on scratch place) (running on scratch (led comparison x y skip (place + word_count insns))))
      (skip_is comparison operand skip) (skip_by_reaches (nat_le skip 32767) comparison skip place)

  pub skip_leads : (comparison : Comparison) (skip place : ℕ) → IsAt on.code place (skip_if comparison operand skip) skip
      → Arrives on (running on scratch place) (led comparison x y skip (place + word_count (skip_if comparison operand skip)))
  skip_leads comparison skip place placed = record { scratch = scratch; reaches = skip_reaches comparison skip place placed }

narrow_compares : (on : Setting) (from : Scratch) (test : Test) (falls : Bool) (skip place : ℕ)
    → (let insns = comparison_by true (jumping test falls) test.operand skip in
    IsAt on.code place insns skip → Arrives on (running on (taken on test from) place) (jumped on test falls skip (place + word_count insns)))
narrow_compares on from test falls skip place =
    let n = number_in test.subject on.segment in
    skip_leads on (taken on test from) (Immediate test.operand) n (immediate_operand test.operand) (branches_on_immediate on from n test.operand)
    (jumping test falls) skip place

wide_compares : (on : Setting) (from : Scratch) (test : Test) (falls : Bool) (skip place : ℕ) → FitsSigned w64 test.operand
    → (let insns = comparison_by false (jumping test falls) test.operand skip in
    IsAt on.code place insns skip → Arrives on (running on (taken on test from) place) (jumped on test falls skip (place + word_count insns)))
wide_compares on from test falls skip place fits placed =
    let n = number_in test.subject on.segment in
    let back = second_placed (Begins on.code) on.code place (wide_load into_argument_1 operand ∷ []) skips skip placed in
    let next = begins_at on.code (place + 2) skips back.has back.end in
    let there = skip_leads on both (Register from_argument_1) n operand (branches_on_register on from n operand) (jumping test falls) skip (place + 2)
    back in
    let count = word_count-append (wide_load into_argument_1 operand ∷ []) skips in
    let e : place + 2 + word_count skips ≡ place + word_count (wide_load into_argument_1 operand ∷ skips) = omega arith in
    record {
      scratch = there.scratch;
      reaches = subst (λ (p : ℕ). Reaches on (running on (taken on test from) place) (running on there.scratch (jumped on test falls skip p))) e
          (steps_on on _ (running on both (place + 2)) _ (loads.step place placed.has.0 next) there.reaches);
    }
  where
    operand : ℕ
    operand = immediate_operand test.operand

    skips : List Insn
    skips = skip_if (jumping test falls) (Register from_argument_1) skip

    both : Scratch
    both = with_1 (taken on test from) operand

    loads : Does on (wide_load into_argument_1 operand) (taken on test from) both
    loads = subst (λ (n : ℕ). Does on (wide_load into_argument_1 operand) (taken on test from) (with_1 (taken on test from) n))
        (wide_is operand (operand_fits test.operand fits)) (loads_wide_1 on (taken on test from) _ _)

-- the instructions at a place lead to the place that a test's jump reaches
abbrev pub Compares : Setting → Scratch → Test → Bool → ℕ → ℕ → List Insn → Type 0
Compares on from test falls skip place insns =
    IsAt on.code place insns skip
    → Arrives on (running on (taken on test from) place) (jumped on test falls skip (place + word_count insns))

compares_by : (on : Setting) (from : Scratch) (test : Test) (falls narrow : Bool) (skip place : ℕ) → FitsSigned w64 test.operand
    → Compares on from test falls skip place (comparison_by narrow (jumping test falls) test.operand skip)
compares_by on from test falls true skip place fits = narrow_compares on from test falls skip place
compares_by on from test falls false skip place fits = wide_compares on from test falls skip place fits

pub compares : (on : Setting) (from : Scratch) (test : Test) (falls : Bool) (skip place : ℕ) → FitsSigned w64 test.operand
    → Compares on from test falls skip place (comparison_code (jumping test falls) test.operand skip)
compares on from test falls skip place fits =
    subst (Compares on from test falls skip place) (comparison_is (jumping test falls) test.operand skip)
    (compares_by on from test falls (is_narrow test.operand) skip place fits)

module _ (on : Setting) where
  pub test_leads : (test : Test) (falls : Bool) (skip place : ℕ) → IsSoundTest test → IsSegment on.segment
      → IsAt on.code place (test_code test falls skip) skip
      → Leads on place (exit_of falls (is_so test on.segment) (place + word_count (test_code test falls skip)) skip)
  test_leads test falls skip place sound segment placed scratch =
      let count = word_count-append front back in
      let e : place + word_count front + word_count back ≡ place + word_count (test_code test falls skip) = omega arith in
      let out = taken_to test.comparison falls (number_in test.subject on.segment) (immediate_operand test.operand)
      (place + word_count (test_code test falls skip)) skip in
      let there = subst (Arrives on (running on (taken on test first.to) (place + word_count front)))
      (ap (jumped on test falls skip) e ∙ out) (compares on first.to test falls skip (place + word_count front) sound.operand after) in
      record {
        scratch = there.scratch;
        reaches = and_on on _ (running on (taken on test first.to) (place + word_count front)) _
            (first.runs.reaches place (has_front on.code place front back placed.has)
            (begins_at on.code (place + word_count front) back after.has after.end)) there.reaches;
      }
    where
      front : List Insn
      front = subject_code test.subject

      back : List Insn
      back = comparison_code (jumping test falls) test.operand skip

      after : IsAt on.code (place + word_count front) back skip
      after = second_placed (Begins on.code) on.code place front back skip placed

      first : Takes on test.subject scratch
      first = takes on test.subject scratch sound.subject segment

-- a decided question: no instruction, or a jump
pub decided_leads : (on : Setting) (found falls : Bool) (skip place : ℕ)
    → IsAt on.code place (question_code (Decided found) falls skip) skip
    → Leads on place (exit_of falls found (place + word_count (question_code (Decided found) falls skip)) skip)
decided_leads on found falls skip place placed = by_test (beq found falls) placed
  where
    code_of : Bool → List Insn
    code_of same = if same then [] else jump (pos skip) ∷ []

    by_test : (same : Bool) → IsAt on.code place (code_of same) skip
        → Leads on place (if same then place + word_count (code_of same) else place + word_count (code_of same) + skip)
    by_test true placed scratch =
        let e : place ≡ place + 0 = omega arith in
        subst (Arrives on (running on scratch place)) e (record { scratch = scratch; reaches = stays on (running on scratch place) })
    by_test false placed scratch = arrives_by on scratch scratch place _ (jumps on scratch place skip placed.has.0 placed.target)

-- the first question decides, or the second one does
pub decides : (on : Setting) (joint : Joint) (falls neutral a b : Bool)
    → Leads on joint.start (exit_of neutral a joint.middle (first_skip falls neutral joint.words joint.skip))
    → Leads on joint.middle (exit_of falls b joint.end joint.skip)
    → Leads on joint.start (exit_of falls (joined neutral a b) joint.end joint.skip)
decides on joint true true true b one two = leads_on on joint.start joint.middle _ one two
decides on joint false true true b one two = leads_on on joint.start joint.middle _ one two
decides on joint true false false b one two = leads_on on joint.start joint.middle _ one two
decides on joint false false false b one two = leads_on on joint.start joint.middle _ one two
decides on joint true true false b one two = subst (Leads on joint.start) (jumps_on joint) one
decides on joint false true false b one two = subst (Leads on joint.start) joint.is one
decides on joint true false true b one two = subst (Leads on joint.start) joint.is one
decides on joint false false true b one two = subst (Leads on joint.start) (jumps_on joint) one

exchanged : (falls answer : Bool) (end skip : ℕ) → exit_of (not falls) answer end skip ≡ exit_of falls (not answer) end skip
exchanged true true end skip = refl
exchanged true false end skip = refl
exchanged false true end skip = refl
exchanged false false end skip = refl

-- from the first instruction of a question's code, a run reaches the exit for its answer
pub question_leads : (on : Setting) (question : Question) (falls : Bool) (skip place : ℕ) → IsSound question → IsSegment on.segment
    → IsAt on.code place (question_code question falls skip) skip
    → Leads on place (exit_of falls (answer question on.segment) (place + word_count (question_code question falls skip)) skip)
question_leads on (Decided found) falls skip place sound segment placed = decided_leads on found falls skip place placed
question_leads on (Holds test) falls skip place sound segment placed = test_leads on test falls skip place sound segment placed
question_leads on (Opposite question) falls skip place sound segment placed =
    subst (Leads on place)
    (exchanged falls (answer question on.segment) (place + word_count (question_code question (not falls) skip)) skip)
    (question_leads on question (not falls) skip place sound segment placed)
question_leads on (Coded block) falls skip place sound segment placed = sound.leads on falls skip place segment placed
question_leads on (Joined neutral first second) falls skip place sound segment placed =
    let after = second_placed (Begins on.code) on.code place (first_code pair) (second_code pair) skip placed in
    let end = begins_at on.code joint.middle (second_code pair) after.has after.end in
    let before = first_placed (Begins on.code) on.code place pair placed end in
    decides on joint falls neutral (answer first on.segment) (answer second on.segment)
    (question_leads on first neutral (skip_first pair) place sound.0 segment before)
    (subst (λ (p : ℕ). Leads on joint.middle (exit_of falls (answer second on.segment) p skip)) joint.is
    (question_leads on second falls skip joint.middle sound.1 segment after))
  where
    pair : Pair
    pair = record { neutral = neutral; first = first; second = second; falls = falls; skip = skip }

    joint : Joint
    joint = joint_of place (first_code pair) (second_code pair) skip
