-- The whole program of a question answers it on every segment, with the score.
use Rattle.std.proofs.Common.{◌≡◌, ℕ, ◌+◌, ◌<◌, ◌^◌, Bool, true, false, is_some, List, ◌∷◌, ◌++◌, Option, Some, None, if◌then◌else◌, refl}
use Rattle.std.proofs.Common.{sym, ap, ◌∙◌, subst}
use Rattle.bpf_helpers.specs.Meaning.{truth}
use Rattle.bpf_helpers.specs.declared.helper.Helper.TheVariants as helper
use Rattle.bpf_insn.specs.Code.{word_count}
use Rattle.bpf_insn.specs.declared.instruction.Insn.{Insn}
use Rattle.bpf_insn.specs.declared.value.Value.TheVariants as value
use Rattle.bpf_meaning.specs.Run.{Answers}
use Rattle.bpf_meaning.specs.State.{start}
use Rattle.bpf_meaning.specs.Step.{Configuration, Exited, Running, after}
use Rattle.bpf_meaning.specs.declared.effect.Change.TheVariants.{SetRegister}
use Rattle.tl_segments.specs.Segment.{SegmentParts, IsSegment}
use Rattle.cql2.specs.declared.column.NumericColumn.{NumericColumn}
use Rattle.cql2.specs.declared.column.NumericColumn.TheVariants as column
use Rattle.cql2_code.specs.Chosen.{score_of}
use Rattle.cql2_code.specs.Layout.{answer_code, call, chosen_code, copy, saved_code, program, subject_code, from_result, from_argument_1, into_argument_1}
use Rattle.cql2_code.specs.Layout.{into_record}
use Rattle.cql2_code.specs.Question.{value as number_in, IsSoundSubject, Question, answer}
use Rattle.cql2_code.specs.declared.question.Subject.{Subject}
use Rattle.cql2_code.specs.declared.question.Subject.TheVariants as subject
use Rattle.cql2_code.proofs.Blocks.{IsSound}
use Rattle.cql2_code.proofs.Calls.{answered, calls_emit, scored}
use Rattle.cql2_code.proofs.Columns.{coordinate_fits, field_fits}
use Rattle.cql2_code.proofs.Program.{has_all, has_chosen, has_first, has_other, keeps_of, middle_of, question_at, start_of}
use Rattle.cql2_code.proofs.SavedSteps.{begins_saved, begun}
use Rattle.cql2_code.proofs.Leads.{Arrives, exit_of}
use Rattle.cql2_code.proofs.Runs.{question_leads}
use Rattle.cql2_code.proofs.Subjects.{takes}
use Rattle.cql2_code.proofs.Steps.{with_0, with_1, Begins, Reaches, HasAt, Scratch, Setting, after_at, and_on, begins_at, copies_0_to_1}
use Rattle.cql2_code.proofs.Steps.{exits, continues_at, has_back, has_front, moves_0, running, stays, steps_on, to_record}

-- the end of a program, with its answer
answers : (on : Setting) (from : Scratch) (n place : ℕ) → HasAt on.code place (answer_code n)
    → Reaches on (running on from place) (Exited n on.score)
answers on from n place has =
    let held : Scratch = with_0 from n in
    steps_on on _ (running on held (place + 1)) _ ((moves_0 on from n).step place has.0 (ap is_some has.1.0))
    (steps_on on _ (Exited n on.score) _ (exits on held n (place + 1) has.1.0) (stays on (Exited n on.score)))

-- the number in register 0 is emitted as the score, and the segment is selected
emits : (on : Setting) (from : Scratch) (number place : ℕ) → number < 2 ^ 64
    → HasAt on.code place (copy into_argument_1 from_result ∷ call helper.Emit ∷ answer_code 1)
    → Reaches on (running on (with_0 from number) place) (Exited 1 number)
emits on from number place fits has =
    let both : Scratch = with_1 (with_0 from number) number in
    let after = answers (scored on number) (answered both 0 0) 1 (place + 1 + 1) has.1.1 in
    steps_on on _ (running on both (place + 1)) _ ((copies_0_to_1 on from number).step place has.0 (ap is_some has.1.0))
    (steps_on on _ (running (scored on number) (answered both 0 0) (place + 1 + 1)) _
    (calls_emit on both number (place + 1) fits has.1.0 (ap is_some has.1.1.0))
    (record { run = after.run; follows = after.follows; ends = after.ends }))

-- so is a subject's number
emits_subject : (on : Setting) (from : Scratch) (subject : Subject) (place : ℕ) → IsSoundSubject subject → IsSegment on.segment
    → number_in subject on.segment < 2 ^ 64
    → HasAt on.code place (subject_code subject ++ (copy into_argument_1 from_result ∷ call helper.Emit ∷ answer_code 1))
    → Reaches on (running on from place) (Exited 1 (number_in subject on.segment))
emits_subject on from subject place sound segment fits has =
    let front = subject_code subject in
    let first = takes on subject from sound segment in
    let back = has_back on.code place front (copy into_argument_1 from_result ∷ call helper.Emit ∷ answer_code 1) has in
    let there = place + word_count front in
    let number = number_in subject on.segment in
    and_on on _ (running on (with_0 first.to number) there) _
    (first.runs.reaches place (has_front on.code place front (copy into_argument_1 from_result ∷ call helper.Emit ∷ answer_code 1) has)
    (ap is_some back.0))
    (emits on first.to number there fits back)

-- the end of a program if the answer is yes
chooses : (on : Setting) (from : Scratch) (score : Option NumericColumn) (place : ℕ) → on.score ≡ 0 → IsSegment on.segment
    → HasAt on.code place (chosen_code score) → Reaches on (running on from place) (Exited 1 (score_of score on.segment))
chooses on from None place none segment has =
    subst (λ (s : ℕ). Reaches on (running on from place) (Exited 1 s)) none (answers on from 1 place has)
chooses on from (Some (column.Number field)) place none segment has =
    emits_subject on from (subject.Number field) place tt segment (field_fits on.segment field segment) has
chooses on from (Some (column.Coordinate end)) place none segment has =
    emits_subject on from (subject.Coordinate end) place tt segment (coordinate_fits on.segment end segment) has

-- the end of a run: its answer, with the score if it is yes
abbrev ended : Option NumericColumn → SegmentParts → Bool → Configuration
ended score segment found = Exited (truth found) (if found then score_of score segment else 0)

-- the registers and the frame once register 6 holds the record's pointer
abbrev at_first : Scratch
at_first = record {
  v0 = value.Empty;
  v1 = to_record;
  v2 = value.Empty;
  v3 = value.Empty;
  v4 = value.Empty;
  v5 = value.Empty;
  v7 = value.Empty;
  v8 = value.Empty;
  v9 = value.Empty;
  frame = start.frame;
  whole = refl;
}

-- on each segment, the program of a question returns its answer, with the score if it is yes
pub program_answers : (score : Option NumericColumn) (question : Question) → IsSound question → (segment : SegmentParts) → IsSegment segment
    → Answers (program score question) segment (truth (answer question segment))
    (if answer question segment then score_of score segment else 0)
program_answers score question sound segment is = record { run = all.run; is_run = all.follows; exits = all.ends }
  where
    on : Setting
    on = record { code = program score question; segment = segment; score = 0 }

    middle : List Insn
    middle = middle_of score question

    skip : ℕ
    skip = word_count (chosen_code score)

    keeps : Bool
    keeps = keeps_of score question

    place : ℕ
    place = start_of score question

    begins : Begins on.code place
    begins = begins_at on.code place middle (question_at score question).has (question_at score question).end

    has_saved : HasAt on.code 1 (saved_code keeps)
    has_saved = (has_first score question).1

    starts : running on at_first 1 ≡ after on.code on.segment start
    starts = sym (after_at on start (copy into_record from_argument_1) (has_all on.code).0
        ∙ continues_at on start 1 (SetRegister into_record to_record) (begins_at on.code 1 (saved_code keeps) has_saved begins))

    there : Arrives on (running on (begun keeps at_first) place) (exit_of true (answer question segment) (place + word_count middle) skip)
    there = question_leads on question true skip place sound is (question_at score question) (begun keeps at_first)

    ends : (found : Bool)
        → Reaches on (running on there.scratch (exit_of true found (place + word_count middle) skip)) (ended score segment found)
    ends true = chooses on there.scratch score (place + word_count middle) refl is (has_chosen score question)
    ends false = answers on there.scratch 0 (place + word_count middle + skip) (has_other score question)

    all : Reaches on (Running start) (ended score segment (answer question segment))
    all = steps_on on start (running on at_first 1) _ starts
        (and_on on _ (running on (begun keeps at_first) place) _ ((begins_saved on keeps at_first).reaches 1 has_saved begins)
        (and_on on _ _ _ there.reaches (ends (answer question segment))))
