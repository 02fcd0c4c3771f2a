-- The parts of a question's code: comparisons, and pairs of joined questions.
use Rattle.std.proofs.Common.{◌≡◌, ℤ, ℕ, ◌+◌, pos, Bool, true, false, List, [], ◌∷◌, ◌++◌, if◌then◌else◌, refl, sym, subst, arith}
use Rattle.std.specs.Prelude.{nat_le}
use Rattle.bpf_insn.specs.Arithmetic.{immediate_operand}
use Rattle.bpf_insn.specs.Code.{word_count}
use Rattle.bpf_insn.specs.declared.instruction.Insn.{Insn}
use Rattle.bpf_insn.specs.declared.instruction.Source.{Source}
use Rattle.bpf_insn.specs.declared.instruction.Source.TheVariants.{Immediate, Register}
use Rattle.bpf_insn.proofs.PlaceLemmas.{word_count-append}
use Rattle.cql2.specs.declared.filter.Comparison.{Comparison}
use Rattle.cql2_code.specs.Layout.{comparison_code, first_skip, is_narrow, jump, jump_if, opposite, question_code, skip_if, from_argument_1}
use Rattle.cql2_code.specs.Layout.{into_argument_1, wide_load}
use Rattle.cql2_code.proofs.Steps.{HasAt, has_back, has_front}
use Rattle.cql2_code.specs.Question.{Question}
use Rattle.cql2_code.specs.declared.question.Test.{Test}

-- the comparison of a test's jump: the opposite one if the code falls through when the test holds
abbrev pub jumping : Test → Bool → Comparison
jumping test falls = if falls then opposite test.comparison else test.comparison

-- the words that a comparison skips, by whether 16 bits hold their number
abbrev pub skip_by : Bool → Comparison → Source → ℕ → List Insn
skip_by true comparison operand skip = jump_if comparison operand (pos skip) ∷ []
skip_by false comparison operand skip = jump_if (opposite comparison) operand (pos 1) ∷ jump (pos skip) ∷ []

pub skip_is : (comparison : Comparison) (operand : Source) (skip : ℕ)
    → skip_by (nat_le skip 32767) comparison operand skip ≡ skip_if comparison operand skip
unfolding skip_if
skip_is comparison operand skip = by_distance (nat_le skip 32767)
  where
    by_distance : (near : Bool)
        → skip_by near comparison operand skip
        ≡ (if near then skip_by true comparison operand skip else skip_by false comparison operand skip)
    by_distance true = refl
    by_distance false = refl

-- the code of a comparison, by whether an immediate holds its operand
abbrev pub comparison_by : Bool → Comparison → ℤ → ℕ → List Insn
comparison_by true comparison operand skip = skip_if comparison (Immediate operand) skip
comparison_by false comparison operand skip =
    wide_load into_argument_1 (immediate_operand operand) ∷ skip_if comparison (Register from_argument_1) skip

pub comparison_is : (comparison : Comparison) (operand : ℤ) (skip : ℕ)
    → comparison_by (is_narrow operand) comparison operand skip ≡ comparison_code comparison operand skip
comparison_is comparison operand skip = by_size (is_narrow operand)
  where
    by_size : (narrow : Bool)
        → comparison_by narrow comparison operand skip
        ≡ (if narrow then comparison_by true comparison operand skip else comparison_by false comparison operand skip)
    by_size true = refl
    by_size false = refl

-- two consecutive codes: the places where they begin and end, the number of words in the second one, and the distance that it jumps past its end
pub record Joint : Type 0 where
  pub start : ℕ
  pub middle : ℕ
  pub end : ℕ
  pub words : ℕ
  pub skip : ℕ
  pub is : middle + words ≡ end

abbrev pub joint_of : (place : ℕ) (first second : List Insn) (skip : ℕ) → Joint
joint_of place first second skip = record {
  start = place;
  middle = place + word_count first;
  end = place + word_count (first ++ second);
  words = word_count second;
  skip = skip;
  is = let count = word_count-append first second in omega arith;
}

-- the place that the first one jumps to
abbrev pub first_jump : Joint → Bool → Bool → ℕ
first_jump joint falls neutral = joint.middle + first_skip falls neutral joint.words joint.skip

pub jumps_on : (joint : Joint) → joint.middle + (joint.words + joint.skip) ≡ joint.end + joint.skip
jumps_on joint = let e = joint.is in omega arith

-- what holds at both exits of the second one holds where the first one jumps to
pub first_target : (Property : ℕ → Type 0) (joint : Joint) (falls neutral : Bool) → Property joint.end → Property (joint.end + joint.skip)
    → Property (first_jump joint falls neutral)
first_target Property joint true true end target = subst Property (sym (jumps_on joint)) target
first_target Property joint false true end target = subst Property (sym joint.is) end
first_target Property joint true false end target = subst Property (sym joint.is) end
first_target Property joint false false end target = subst Property (sym (jumps_on joint)) target

-- a code at a place with its two exits: its end, and a number of words past it
pub record Placed (Property : ℕ → Type 0) (code : List Insn) (place : ℕ) (insns : List Insn) (skip : ℕ) : Type 0 where
  pub has : HasAt code place insns
  pub end : Property (place + word_count insns)
  pub target : Property (place + word_count insns + skip)

-- the second of two codes
pub second_placed : (Property : ℕ → Type 0) (code : List Insn) (place : ℕ) (insns others : List Insn) (skip : ℕ)
    → Placed Property code place (insns ++ others) skip → Placed Property code (place + word_count insns) others skip
second_placed Property code place insns others skip placed =
    let count = word_count-append insns others in
    let e : place + word_count insns + word_count others ≡ place + word_count (insns ++ others) = omega arith in
    record {
      has = has_back code place insns others placed.has;
      end = subst Property (sym e) placed.end;
      target = subst (λ (p : ℕ). Property (p + skip)) (sym e) placed.target;
    }

-- two joined questions and their exits
pub record Pair : Type 0 where
  pub neutral : Bool
  pub first : Question
  pub second : Question
  pub falls : Bool
  pub skip : ℕ

abbrev pub second_code : Pair → List Insn
second_code pair = question_code pair.second pair.falls pair.skip

abbrev pub skip_first : Pair → ℕ
skip_first pair = first_skip pair.falls pair.neutral (word_count (second_code pair)) pair.skip

abbrev pub first_code : Pair → List Insn
first_code pair = question_code pair.first pair.neutral (skip_first pair)

abbrev pub both_code : Pair → List Insn
both_code pair = first_code pair ++ second_code pair

-- the first of them
pub first_placed : (Property : ℕ → Type 0) (code : List Insn) (place : ℕ) (pair : Pair) → Placed Property code place (both_code pair) pair.skip
    → Property (place + word_count (first_code pair)) → Placed Property code place (first_code pair) (skip_first pair)
first_placed Property code place pair placed end = record {
  has = has_front code place (first_code pair) (second_code pair) placed.has;
  end = end;
  target = first_target Property (joint_of place (first_code pair) (second_code pair) pair.skip) pair.falls pair.neutral placed.end
      placed.target;
}
