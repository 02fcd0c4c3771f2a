-- A compiled filter.
use Rattle.std.proofs.Common.{◌≡◌, ℕ, ◌-◌, Bool, true, false, List, [], ◌∷◌, ◌++◌, length, Option, if◌then◌else◌, refl, sym, ap, ◌∙◌, subst}
use Rattle.std.proofs.Common.{arith, append_assoc}
use Rattle.std.specs.Prelude.{All, IfOk, Result}
use Rattle.std.proofs.lemmas.Result.{IfOk-weaker}
use Rattle.std.proofs.lemmas.List.Elements.{All-head, All-tail}
use Rattle.bpf_flow.specs.Flow.{IsForward}
use Rattle.bpf_helpers.specs.Meaning as number
use Rattle.bpf_insn.proofs.PlaceLemmas.{word_count-append}
use Rattle.bpf_insn.specs.Code.{word_count}
use Rattle.bpf_insn.specs.declared.instruction.Insn.{Insn}
use Rattle.bpf_meaning.proofs.ExtractLemmas.{one_extract_lem, selection_extract}
use Rattle.bpf_meaning.specs.Extract.{IsExtractIn, IsSelection, Selected, TextFormat, selected_if_chosen, texts_of}
use Rattle.bpf_meaning.specs.Run.{Answers}
use Rattle.bpf_verify.specs.Annotation.{HasGoodAnnotation}
use Rattle.cql2.specs.Truth.{selects}
use Rattle.cql2.specs.declared.column.NumericColumn.{NumericColumn}
use Rattle.cql2.specs.declared.filter.Filter.{Filter}
use Rattle.tl_segments.proofs.ValidLemmas.{are_segments, loaded_segments}
use Rattle.tl_segments.specs.County.{LoadsSegments, SegmentReaders}
use Rattle.tl_segments.specs.Joining.{JoinedLines, segments_of}
use Rattle.tl_segments.specs.Loading.{AreValidJoined, AreValidLines}
use Rattle.tl_segments.specs.Segment.{SegmentParts, IsSegment}
use Rattle.tl_segments.specs.declared.fault.CountyFile.TheVariants.{Rt1}
use Rattle.cql2_code.specs.Chosen.{Chooses, IsExtractOf, score_of, selection_of}
use Rattle.cql2_code.specs.declared.fault.CompileFault.{CompileFault}
use Rattle.cql2_code.specs.Layout.{IsTooLong, MayBeRefused, Refuses, Writes, answer_code, begun, chosen_code, program, question_code, score_code}
use Rattle.cql2_code.specs.Lowering.{asks_whether}
use Rattle.cql2_code.specs.Question.{Question}
use Rattle.cql2_code.specs.declared.question.Exits.{Exits}
use Rattle.cql2_code.proofs.AcceptedWhole.{program_is_accepted, program_is_forward}
use Rattle.cql2_code.proofs.Lowered.{asks_rightly}
use Rattle.cql2_code.proofs.Refused.{begun_longer, longer}
use Rattle.cql2_code.proofs.Sound.{asks_soundly}
use Rattle.cql2_code.proofs.Whole.{program_answers}

-- the code is the filter's program
abbrev pub IsProgram : {A : Type 0} → List Insn → Filter A → Option NumericColumn → Type 0
IsProgram code filter score = code ≡ program score (asks_whether filter true)

-- it answers yes with the score, or no
abbrev AnswersBy : List Insn → SegmentParts → Option NumericColumn → Bool → Type 0
AnswersBy code segment score chosen = Answers code segment (number.truth chosen) (if chosen then score_of score segment else 0)

pub chooses : {A : Type 0} (code : List Insn) (filter : Filter A) (score : Option NumericColumn) → IsProgram code filter score
    → Chooses code filter score
chooses code filter score is segment segment_is =
    subst (λ (c : List Insn). AnswersBy c segment score (selects filter segment)) (sym is)
    (subst (λ (chosen : Bool). AnswersBy (program score (asks_whether filter true)) segment score chosen)
    (asks_rightly segment segment_is filter true)
    (program_answers score (asks_whether filter true) (asks_soundly filter true) segment segment_is))

pub forward : {A : Type 0} (code : List Insn) (filter : Filter A) (score : Option NumericColumn) → IsProgram code filter score
    → IsForward code
forward code filter score is = subst IsForward (sym is) (program_is_forward score (asks_whether filter true) (asks_soundly filter true))

pub accepted : {A : Type 0} (code : List Insn) (filter : Filter A) (score : Option NumericColumn) → IsProgram code filter score
    → HasGoodAnnotation code
accepted code filter score is =
    subst HasGoodAnnotation (sym is) (program_is_accepted score (asks_whether filter true) (asks_soundly filter true))

-- the code after a program's question, written back to front
pub end_written : {one two three : List Insn} (score : Option NumericColumn) → one ≡ answer_code 0 → two ≡ answer_code 1 ++ one
    → three ≡ score_code score ++ two → three ≡ chosen_code score ++ answer_code 0
end_written score first second third =
    third ∙ ap (λ (rest : List Insn). score_code score ++ rest) (second ∙ ap (λ (rest : List Insn). answer_code 1 ++ rest) first)
    ∙ sym (append_assoc (score_code score) (answer_code 1) (answer_code 0))

-- the question jumps past the next part if the answer is yes
pub chosen_words : {one three : List Insn} (score : Option NumericColumn) → one ≡ answer_code 0
    → three ≡ chosen_code score ++ answer_code 0 → word_count three - word_count one ≡ word_count (chosen_code score)
chosen_words score first all =
    let there = ap word_count all ∙ word_count-append (chosen_code score) (answer_code 0) in
    let last = ap word_count first in
    omega arith

-- a program, assembled back to front
pub program_written : {question : Question} {exits : Exits} {end whole : List Insn} (score : Option NumericColumn)
    → end ≡ chosen_code score ++ answer_code 0 → exits.falls ≡ true → exits.skip ≡ word_count (chosen_code score)
    → Writes question exits end whole → begun whole ≡ program score question
program_written {question} {exits} {end} score last falls skip written =
    ap begun
    (written.code ∙ ap (λ (b : Bool). question_code question b exits.skip ++ end) falls
    ∙ ap (λ (n : ℕ). question_code question true n ++ end) skip
    ∙ ap (λ (rest : List Insn). question_code question true (word_count (chosen_code score)) ++ rest) last)

-- a program is refused if its end is
pub end_refused : {rest : List Insn} {fault : CompileFault} (score : Option NumericColumn) (question : Question) (front : List Insn)
    → chosen_code score ++ answer_code 0 ≡ front ++ rest → MayBeRefused rest fault → MayBeRefused (program score question) fault
end_refused score question front is refused = record {
  too_long = λ other.
      begun_longer
      (longer (question_code question true (word_count (chosen_code score))) (subst IsTooLong (sym is) (longer front (refused.too_long other))));
}

-- a program is refused if its question's code is
pub question_refused : {question : Question} {exits : Exits} {end : List Insn} {fault : CompileFault} (score : Option NumericColumn)
    → end ≡ chosen_code score ++ answer_code 0 → exits.falls ≡ true → exits.skip ≡ word_count (chosen_code score)
    → Refuses question exits end fault → MayBeRefused (program score question) fault
question_refused {question} score last falls skip refused = record {
  too_long = λ other.
      subst IsTooLong (program_written {question = question} score last falls skip (record { code = refl }))
      (begun_longer (refused.too_long other));
}

-- a property of a result's code, if there is one
pub if_ok : {E : Type 0} {whole : List Insn} (P : List Insn → Type 0) (result : Result (List Insn) E) → IfOk result (λ code. code ≡ whole)
    → P whole → IfOk result P
if_ok {E} {whole} P result same holds =
    IfOk-weaker result (λ (code : List Insn). code ≡ whole) P (λ code is. subst P (sym is) holds) same

-- a filter's question is written if that of an equal filter is
pub asks_as : {A : Type 0} {filter other : Filter A} {exits : Exits} {old new : List Insn} (asked : Bool) → filter ≡ other
    → Writes (asks_whether other asked) exits old new → Writes (asks_whether filter asked) exits old new
asks_as {A} {exits = exits} {old = old} {new = new} asked same written =
    subst (λ (f : Filter A). Writes (asks_whether f asked) exits old new) (sym same) written

-- Extracts

selected_is : (chosen : Bool) (score : ℕ) (segment : SegmentParts)
    → (if chosen then record { score = score; segment = segment } ∷ [] else [])
    ≡ selected_if_chosen (number.truth chosen) (if chosen then score else 0) segment
selected_is true score segment = refl
selected_is false score segment = refl

module _ {A : Type 0} (code : List Insn) (filter : Filter A) (score : Option NumericColumn) (chooses : Chooses code filter score) where
  -- a filter's program selects the segments for which the filter is true
  pub selects_true : (segments : List SegmentParts) → All IsSegment segments → IsSelection code segments (selection_of filter score segments)
  selects_true [] all = refl
  selects_true (segment ∷ segments) all =
      let chosen = selects filter segment in (
        number.truth chosen,
        (if chosen then score_of score segment else 0),
        selection_of filter score segments,
        chooses segment (All-head IsSegment segment segments all),
        ap (λ (selected : List Selected). selected ++ selection_of filter score segments) (selected_is chosen (score_of score segment) segment),
        selects_true segments (All-tail IsSegment segment segments all),
      )

module _ {A : Type 0} (text_of : TextFormat) (code : List Insn) (filter : Filter A) (score : Option NumericColumn)
    (chooses : Chooses code filter score) where
  -- their texts are its extract
  pub extracts : (segments : List SegmentParts) → All IsSegment segments → IsExtractIn text_of code segments
      (texts_of text_of (selection_of filter score segments)) (length (selection_of filter score segments))
  extracts segments all =
      selection_extract text_of code segments (selection_of filter score segments) (selects_true code filter score chooses segments all)

  -- any extract of the program has exactly those texts
  only_extract : (segments : List SegmentParts) → All IsSegment segments → (text : List ℕ) (count : ℕ)
      → IsExtractIn text_of code segments text count → IsExtractOf text_of filter score segments text count
  only_extract segments all text count is =
      let same = one_extract_lem text_of code segments text (texts_of text_of (selection_of filter score segments)) count
      (length (selection_of filter score segments)) is (extracts segments all) in
      record { text_is = same.0; count_is = same.1 }

  -- the segments may be those of lines without a fault
  pub extract_of_lines : (joined : JoinedLines) (lines : List (List ℕ)) → AreValidJoined joined → AreValidLines Rt1 lines
      → (text : List ℕ) (count : ℕ) → IsExtractIn text_of code (segments_of joined lines) text count
      → IsExtractOf text_of filter score (segments_of joined lines) text count
  extract_of_lines joined lines valid are = only_extract (segments_of joined lines) (are_segments joined valid lines are)

  -- or those that were loaded
  pub extract_of_segments : (segments : List SegmentParts) (old new : SegmentReaders) → LoadsSegments segments old new → (text : List ℕ) (count : ℕ)
      → IsExtractIn text_of code segments text count → IsExtractOf text_of filter score segments text count
  extract_of_segments segments old new loads = only_extract segments (loaded_segments segments old new loads)
