-- Extracts of segments: they can be concatenated, there is only one, and it consists of the texts of the selected segments.
use Rattle.std.proofs.Common.{◌≡◌, ℕ, ◌+◌, Bool, true, false, List, [], ◌∷◌, ◌++◌, length, refl, sym, ap, subst, ◌∙◌, append_assoc, arith}
use Rattle.std.specs.Prelude.{◌==◌, All, if◌then◌else◌}
use Rattle.std.proofs.lemmas.List.{append-nil, length-append}
use Rattle.std.proofs.lemmas.List.Elements.{All-head, All-tail}
use Rattle.std.proofs.lemmas.Grind.{flat_map-append}
use Rattle.bpf_insn.specs.declared.instruction.Insn.{Insn}
use Rattle.tl_segments.specs.Segment.{IsSegment, SegmentParts}
use Rattle.bpf_meaning.specs.Extract.{IsExtractIn, IsSelection, Selected, TextFormat, chosen_count, selected_if_chosen, text_if_chosen, texts_of}
use Rattle.bpf_meaning.specs.Run.{Answers, IsSafe}
use Rattle.bpf_meaning.proofs.RunLemmas.{one_answer_lem}

-- a segment with its score, unless it isn't selected
abbrev one_unless : Bool → ℕ → SegmentParts → List Selected
one_unless unselected score segment = if unselected then [] else record { score = score; segment = segment } ∷ []

length-one_unless : (unselected : Bool) (score : ℕ) (segment : SegmentParts)
    → length (one_unless unselected score segment) ≡ (if unselected then 0 else 1)
length-one_unless true score segment = refl
length-one_unless false score segment = refl

module _ (text_of : TextFormat) (code : List Insn) where
  -- the extract of two lists of segments, one after the other
  pub extract_append : (front back : List SegmentParts) (text more : List ℕ) (count others : ℕ) → IsExtractIn text_of code front text count
      → IsExtractIn text_of code back more others → IsExtractIn text_of code (front ++ back) (text ++ more) (count + others)
  extract_append [] back text more count others is next =
      rw (is.0, is.1) (subst (λ count. IsExtractIn text_of code back more count) {x = others} {y = 0 + others} (omega arith) next)
  extract_append (segment ∷ front) back text more count others is next = (
    is.0,
    is.1,
    is.2 ++ more,
    is.3 + others,
    is.4,
    ap (λ (text : List ℕ). text ++ more) is.5 ∙ append_assoc (text_if_chosen text_of is.0 is.1 segment) is.2 more,
    (let counted = is.6 in omega arith),
    extract_append front back is.2 more is.3 others is.7 next,
  )

  -- the extract of one segment
  extract_of_one : (segment : SegmentParts) (answer score : ℕ) → Answers code segment answer score
      → IsExtractIn text_of code (segment ∷ []) (text_if_chosen text_of answer score segment) (chosen_count answer)
  extract_of_one segment answer score answers =
      (answer, score, [], 0, answers, sym (append-nil (text_if_chosen text_of answer score segment)), (omega arith), (refl, refl))

  -- one more segment
  pub extract_push : (segments : List SegmentParts) (segment : SegmentParts) (text : List ℕ) (count answer score : ℕ)
      → IsExtractIn text_of code segments text count → Answers code segment answer score
      → IsExtractIn text_of code (segments ++ segment ∷ []) (text ++ text_if_chosen text_of answer score segment) (count + chosen_count answer)
  extract_push segments segment text count answer score is answers =
      extract_append segments (segment ∷ []) text (text_if_chosen text_of answer score segment) count (chosen_count answer) is
      (extract_of_one segment answer score answers)

  -- a code and a list of segments have only one extract
  pub one_extract_lem : (segments : List SegmentParts) (text other : List ℕ) (count others : ℕ) → IsExtractIn text_of code segments text count
      → IsExtractIn text_of code segments other others → (text ≡ other) × (count ≡ others)
  one_extract_lem [] text other count others is also = (is.0 ∙ sym also.0, is.1 ∙ sym also.1)
  one_extract_lem (segment ∷ segments) text other count others is also =
      let answer = one_answer_lem code segment is.0 is.1 also.0 also.1 is.4 also.4 in
      let rest_same = one_extract_lem segments is.2 also.2 is.3 also.3 is.7 also.7 in (
        is.5
            ∙ ap (λ answer. text_if_chosen text_of answer is.1 segment ++ is.2) answer.0
            ∙ ap (λ score. text_if_chosen text_of also.0 score segment ++ is.2) answer.1
            ∙ ap (λ (text : List ℕ). text_if_chosen text_of also.0 also.1 segment ++ text) rest_same.0
            ∙ sym also.5,
        is.6 ∙ ap (λ answer. chosen_count answer + is.3) answer.0 ∙ ap (λ count. chosen_count also.0 + count) rest_same.1 ∙ sym also.6,
      )

  texts_of-one_unless : (unselected : Bool) (score : ℕ) (segment : SegmentParts)
      → texts_of text_of (one_unless unselected score segment) ≡ (if unselected then [] else text_of score segment)
  texts_of-one_unless true score segment = refl
  texts_of-one_unless false score segment = append-nil (text_of score segment)

  -- the extract consists of the texts of the selection, and the other way round

  pub extract_selection : (segments : List SegmentParts) (text : List ℕ) (count : ℕ) → IsExtractIn text_of code segments text count
      → (selected : List Selected) × IsSelection code segments selected × (text ≡ texts_of text_of selected) × (count ≡ length selected)
  extract_selection [] text count is = ([], refl, is.0, is.1)
  extract_selection (segment ∷ segments) text count is =
      let rest = extract_selection segments is.2 is.3 is.7 in
      let one = selected_if_chosen is.0 is.1 segment in (
        one ++ rest.0,
        (is.0, is.1, rest.0, is.4, refl, rest.1),
        is.5
            ∙ ap (λ (others : List ℕ). text_if_chosen text_of is.0 is.1 segment ++ others) rest.2
            ∙ ap (λ (text : List ℕ). text ++ texts_of text_of rest.0) (sym (texts_of-one_unless (is.0 == 0) is.1 segment))
            ∙ sym (flat_map-append (λ (one : Selected). text_of one.score one.segment) one rest.0),
        is.6
            ∙ ap (λ n. chosen_count is.0 + n) rest.3
            ∙ ap (λ n. n + length rest.0) (sym (length-one_unless (is.0 == 0) is.1 segment))
            ∙ sym (length-append one rest.0),
      )

  pub selection_extract : (segments : List SegmentParts) (selected : List Selected) → IsSelection code segments selected
      → IsExtractIn text_of code segments (texts_of text_of selected) (length selected)
  selection_extract [] selected is = (ap (texts_of text_of) is, ap (λ (selected : List Selected). length selected) is)
  selection_extract (segment ∷ segments) selected is =
      let one = selected_if_chosen is.0 is.1 segment in (
        is.0,
        is.1,
        texts_of text_of is.2,
        length is.2,
        is.3,
        ap (texts_of text_of) is.4
            ∙ flat_map-append (λ (one : Selected). text_of one.score one.segment) one is.2
            ∙ ap (λ (text : List ℕ). text ++ texts_of text_of is.2) (texts_of-one_unless (is.0 == 0) is.1 segment),
        ap (λ (selected : List Selected). length selected) is.4
            ∙ length-append one is.2
            ∙ ap (λ n. n + length is.2) (length-one_unless (is.0 == 0) is.1 segment),
        selection_extract segments is.2 is.5,
      )

module _ (code : List Insn) where
  -- a code and a list of segments have only one selection
  pub one_selection_lem : (segments : List SegmentParts) (selected other : List Selected) → IsSelection code segments selected
      → IsSelection code segments other → selected ≡ other
  one_selection_lem [] selected other is also = is ∙ sym also
  one_selection_lem (segment ∷ segments) selected other is also =
      let answer = one_answer_lem code segment is.0 is.1 also.0 also.1 is.3 also.3 in
      is.4
      ∙ ap (λ answer. selected_if_chosen answer is.1 segment ++ is.2) answer.0
      ∙ ap (λ score. selected_if_chosen also.0 score segment ++ is.2) answer.1
      ∙ ap (λ (others : List Selected). selected_if_chosen also.0 also.1 segment ++ others) (one_selection_lem segments is.2 also.2 is.5 also.5)
      ∙ sym also.4

  -- safe code has a selection
  pub some_selection : IsSafe code → (segments : List SegmentParts) → All IsSegment segments
      → (selected : List Selected) × IsSelection code segments selected
  some_selection safe [] all = ([], refl)
  some_selection safe (segment ∷ segments) all =
      let exits = safe.exits segment (All-head IsSegment segment segments all) in
      let rest = some_selection safe segments (All-tail IsSegment segment segments all) in (
        selected_if_chosen exits.answer exits.score segment ++ rest.0,
        (
          exits.answer,
          exits.score,
          rest.0,
          record { run = exits.run; is_run = exits.is_run; exits = exits.exits },
          refl,
          rest.1,
        ),
      )

  -- extracts in two formats have the same number of texts
  pub same_count : (text_of other_of : TextFormat) (segments : List SegmentParts) (text other : List ℕ) (count others : ℕ)
      → IsExtractIn text_of code segments text count → IsExtractIn other_of code segments other others → count ≡ others
  same_count text_of other_of segments text other count others is also =
      let one = extract_selection text_of code segments text count is in
      let two = extract_selection other_of code segments other others also in
      one.3
      ∙ ap (λ (selected : List Selected). length selected) (one_selection_lem segments one.0 two.0 one.1 two.1)
      ∙ sym two.3
