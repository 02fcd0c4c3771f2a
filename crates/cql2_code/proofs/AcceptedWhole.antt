-- The verifier accepts a question's program: its jumps go forward, and what each instruction needs is known before it.
use Rattle.std.proofs.Common.{◌≡◌, ℕ, ◌+◌, pos, true, is_some, List, [], ◌∷◌, ◌++◌, Option, Some, refl, sym, ap, ◌∙◌, subst, arith, append_assoc}
use Rattle.std.proofs.Common.{lit<}
use Rattle.bpf_flow.specs.Flow.{IsForward}
use Rattle.bpf_insn.proofs.PlaceLemmas.{word_count-cons}
use Rattle.bpf_insn.specs.Code.{instruction_at, word_count}
use Rattle.bpf_insn.specs.declared.instruction.Insn.{Insn}
use Rattle.bpf_insn.specs.declared.instruction.Insn.TheVariants.{Exit}
use Rattle.bpf_verify.proofs.StateLaws.{reflexive}
use Rattle.bpf_verify.specs.Annotation.{HasGoodAnnotation}
use Rattle.bpf_verify.specs.LiftedState.{Reached, entry}
use Rattle.cql2.specs.declared.column.NumericColumn.{NumericColumn}
use Rattle.cql2_code.specs.Layout.{answer_code, chosen_code, copy, from_argument_1, into_record, into_result, saved_code, move, program}
use Rattle.cql2_code.specs.Question.{Question}
use Rattle.cql2_code.proofs.AbstractState.{annotation_of, resting, state_before}
use Rattle.cql2_code.proofs.Accepted.{question_good, question_needs, rests_at}
use Rattle.cql2_code.proofs.Blocks.{IsSound, Settled}
use Rattle.cql2_code.proofs.Good.{AreGoodAt, IsGoodAt, Needs, all_good, good-append, good_there, needs_at}
use Rattle.cql2_code.proofs.Saved.{first_passes}
use Rattle.cql2_code.proofs.Passes.{answer_passes, chosen_passes, chosen_rests}
use Rattle.cql2_code.proofs.Program.{chosen_begins, code_of, front_of, has_chosen, has_first, has_middle, has_other, keeps_middle, keeps_of}
use Rattle.cql2_code.proofs.Program.{middle_of, rest_of, start_of}
use Rattle.cql2_code.proofs.Proper.{annotation_proper}
use Rattle.cql2_code.proofs.Steps.{has_front}

-- the program ends in an exit
ends_in_exit : (middle chosen : List Insn) (last : Insn)
    → middle ++ (chosen ++ last ∷ Exit ∷ []) ≡ (middle ++ (chosen ++ last ∷ [])) ++ Exit ∷ []
ends_in_exit middle chosen last =
    sym
    (append_assoc middle (chosen ++ last ∷ []) (Exit ∷ [])
    ∙ ap (λ (rest : List Insn). middle ++ rest) (append_assoc chosen (last ∷ []) (Exit ∷ [])))

module _ (score : Option NumericColumn) (question : Question) where
  question_placed : Settled (keeps_of score question) (code_of score question) (start_of score question) (middle_of score question)
      (word_count (chosen_code score))
  question_placed =
      let keeps = keeps_of score question in
      let code = code_of score question in
      let end = start_of score question + word_count (middle_of score question) in
      let other = end + word_count (chosen_code score) in
      let chosen = has_chosen score question in
      record {
        has = has_front code (start_of score question) (middle_of score question) (chosen_code score ++ answer_code 0) (has_middle score question);
        end = record {
          begins = chosen_begins code end score chosen;
          needs = needs_at keeps code end (chosen_code score) _ chosen refl ∙ chosen_rests keeps score (annotation_of keeps code other);
        };
        target = record { begins = ap is_some (has_other score question).0; needs = ap (state_before keeps) (has_other score question).0 };
      }

  ending_good : AreGoodAt (keeps_of score question) (code_of score question) (start_of score question + word_count (middle_of score question))
      (chosen_code score ++ answer_code 0)
  ending_good =
      let keeps = keeps_of score question in
      let code = code_of score question in
      let end = start_of score question + word_count (middle_of score question) in
      let other = end + word_count (chosen_code score) in
      good-append keeps code end (chosen_code score) (answer_code 0)
      (all_good keeps code end (chosen_code score) _ (has_chosen score question) refl (chosen_passes keeps score (annotation_of keeps code other)))
      (all_good keeps code other (answer_code 0) _ (has_other score question) refl (answer_passes keeps 0 _ (lit< tt)))

  module _ (sound : IsSound question) where
    rest_good : AreGoodAt (keeps_of score question) (code_of score question) (start_of score question) (rest_of score question)
    rest_good =
        good-append (keeps_of score question) (code_of score question) (start_of score question) (middle_of score question)
        (chosen_code score ++ answer_code 0)
        (question_good (keeps_of score question) (code_of score question) question true (word_count (chosen_code score)) (start_of score question)
        sound (keeps_middle score question) question_placed)
        ending_good

    -- the first instructions need nothing more after them
    first_needs : Needs (keeps_of score question) (code_of score question) (start_of score question) (resting (keeps_of score question))
    first_needs =
        (rests_at (keeps_of score question) (code_of score question) (start_of score question) (middle_of score question) question_placed.has
        (question_needs (keeps_of score question) question true (word_count (chosen_code score)) sound) question_placed.end).needs

    program_good : AreGoodAt (keeps_of score question) (program score question) 0 (program score question)
    program_good =
        let keeps = keeps_of score question in
        let count : word_count (front_of score question) ≡ 1 + word_count (saved_code keeps) =
        word_count-cons (copy into_record from_argument_1) (saved_code keeps) in
        let e : start_of score question ≡ 0 + word_count (front_of score question) = omega arith in
        good-append keeps (code_of score question) 0 (front_of score question) (rest_of score question)
        (all_good keeps (code_of score question) 0 (front_of score question) (resting keeps) (has_first score question)
        (subst (λ (p : ℕ). Needs keeps (code_of score question) p (resting keeps)) e first_needs) (first_passes keeps))
        (subst (λ (p : ℕ). AreGoodAt keeps (code_of score question) p (rest_of score question)) e rest_good)

    good_at : (place : ℕ) (insn : Insn) → instruction_at (program score question) place ≡ Some insn
        → IsGoodAt (keeps_of score question) (program score question) place insn
    good_at place insn at =
        let e : 0 + place ≡ place = omega arith in
        subst (λ (p : ℕ). IsGoodAt (keeps_of score question) (program score question) p insn) e
        (good_there (keeps_of score question) (program score question) 0 (program score question) program_good place insn at)

    -- the program of a question only jumps forward
    pub program_is_forward : IsForward (program score question)
    program_is_forward = record {
      jumps = λ place insn distance at jumps. (good_at place insn at).leads distance jumps;
      last = (
        front_of score question ++ (middle_of score question ++ (chosen_code score ++ move into_result (pos 0) ∷ [])),
        ap (λ (rest : List Insn). front_of score question ++ rest)
            (ends_in_exit (middle_of score question) (chosen_code score) (move into_result (pos 0)))
            ∙ sym (append_assoc (front_of score question) (middle_of score question ++ (chosen_code score ++ move into_result (pos 0) ∷ []))
            (Exit ∷ [])),
      );
    }

    -- its annotation is good throughout, so the verifier accepts it
    pub program_is_accepted : HasGoodAnnotation (program score question)
    program_is_accepted = (
      annotation_of (keeps_of score question) (program score question),
      record {
        proper = annotation_proper (keeps_of score question) (program score question);
        entry = reflexive (Reached entry);
        passes = λ place insn less at. (good_at place insn at).passes;
      },
    )
