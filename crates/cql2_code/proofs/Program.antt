-- The parts of a question's program, and their places.
use Rattle.std.proofs.Common.{◌≡◌, ℕ, ◌+◌, Bool, true, is_some, List, [], ◌∷◌, ◌++◌, length, Option, Some, None, ap, ◌∙◌, subst, append_assoc}
use Rattle.bpf_insn.specs.Code.{spelling, word_count}
use Rattle.bpf_insn.specs.declared.instruction.Insn.{Insn}
use Rattle.bpf_insn.proofs.PlaceLemmas.{instruction_at-middle, word_count-append, word_count-one}
use Rattle.cql2.specs.declared.column.NumericColumn.{NumericColumn}
use Rattle.cql2.specs.declared.column.NumericColumn.TheVariants as column
use Rattle.std.specs.List.{list_any}
use Rattle.cql2_code.specs.Layout.{answer_code, chosen_code, copy, from_argument_1, into_record, saved_code, program, question_code, writes_saved}
use Rattle.cql2_code.specs.Question.{Question}
use Rattle.cql2_code.proofs.Blocks.{Keeps, keeps_front}
use Rattle.cql2_code.proofs.Leads.{IsAt}
use Rattle.cql2_code.proofs.Steps.{Begins, HasAt, has_back, has_front}

-- instructions after others are at the place after those
has_rest : (before rest : List Insn) → HasAt (before ++ rest) (word_count before) rest
has_rest before [] = tt
has_rest before (insn ∷ rest) =
    let count : word_count (before ++ insn ∷ []) ≡ word_count before + length (spelling insn) =
    word_count-append before (insn ∷ []) ∙ ap (λ (n : ℕ). word_count before + n) (word_count-one insn) in
    let same = append_assoc before (insn ∷ []) rest in (
      instruction_at-middle before insn rest,
      subst (λ (code : List Insn). HasAt code (word_count before + length (spelling insn)) rest) same
          (subst (λ (p : ℕ). HasAt ((before ++ insn ∷ []) ++ rest) p rest) count (has_rest (before ++ insn ∷ []) rest)),
    )

pub has_all : (code : List Insn) → HasAt code 0 code
has_all code = has_rest [] code

pub chosen_begins : (code : List Insn) (place : ℕ) (score : Option NumericColumn) → HasAt code place (chosen_code score)
    → Begins code place
chosen_begins code place None has = ap is_some has.0
chosen_begins code place (Some (column.Number field)) has = ap is_some has.0
chosen_begins code place (Some (column.Coordinate end)) has = ap is_some has.0

-- the code of a program's question, and its exits
module _ (score : Option NumericColumn) (question : Question) where
  abbrev pub code_of : List Insn
  code_of = program score question

  abbrev pub middle_of : List Insn
  middle_of = question_code question true (word_count (chosen_code score))

  abbrev pub rest_of : List Insn
  rest_of = middle_of ++ (chosen_code score ++ answer_code 0)

  -- whether the program keeps numbers in registers 7 to 9, its first instructions, and the place after them
  abbrev pub keeps_of : Bool
  keeps_of = list_any writes_saved rest_of

  abbrev pub front_of : List Insn
  front_of = copy into_record from_argument_1 ∷ saved_code keeps_of

  abbrev pub start_of : ℕ
  start_of = 1 + word_count (saved_code keeps_of)

  pub keeps_middle : Keeps keeps_of middle_of
  keeps_middle = keeps_front keeps_of middle_of (chosen_code score ++ answer_code 0) (λ writes. writes)

  pub has_first : HasAt code_of 0 front_of
  has_first = has_front code_of 0 front_of rest_of (has_all code_of)

  pub has_middle : HasAt code_of start_of rest_of
  has_middle = has_back code_of 1 (saved_code keeps_of) rest_of (has_all code_of).1

  pub has_end : HasAt code_of (start_of + word_count middle_of) (chosen_code score ++ answer_code 0)
  has_end = has_back code_of start_of middle_of (chosen_code score ++ answer_code 0) has_middle

  pub has_chosen : HasAt code_of (start_of + word_count middle_of) (chosen_code score)
  has_chosen = has_front code_of (start_of + word_count middle_of) (chosen_code score) (answer_code 0) has_end

  pub has_other : HasAt code_of (start_of + word_count middle_of + word_count (chosen_code score)) (answer_code 0)
  has_other = has_back code_of (start_of + word_count middle_of) (chosen_code score) (answer_code 0) has_end

  pub question_at : IsAt code_of start_of middle_of (word_count (chosen_code score))
  question_at = record {
    has = has_front code_of start_of middle_of (chosen_code score ++ answer_code 0) has_middle;
    end = chosen_begins code_of (start_of + word_count middle_of) score has_chosen;
    target = ap is_some has_other.0;
  }
