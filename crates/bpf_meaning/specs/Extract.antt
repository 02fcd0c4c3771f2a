-- The extract of segments: one text for each segment on which the code's answer isn't 0.
use Rattle.std.specs.Prelude.{◌≡◌, ℕ, ◌+◌, ◌==◌, List, [], ◌∷◌, ◌++◌, decimal, if◌then◌else◌}
use Rattle.std.specs.List.{flat_map}
use Rattle.bpf_insn.specs.declared.instruction.Insn.{Insn}
use Rattle.tl_segments.specs.Segment.{SegmentParts}
use Rattle.bpf_meaning.specs.Run.{Answers}

-- a format: the text of a segment with a score
abbrev pub TextFormat : Type 0
TextFormat = ℕ → SegmentParts → List ℕ

-- a row: the score in decimal, a tab, the record, and a line feed
abbrev pub row_of : ℕ → SegmentParts → List ℕ
row_of score segment = decimal score ++ 9 ∷ segment.bytes ++ 10 ∷ []

-- the text of a segment if it is selected, and otherwise nothing
abbrev pub text_if_chosen : TextFormat → ℕ → ℕ → SegmentParts → List ℕ
text_if_chosen text_of answer score segment = if answer == 0 then [] else text_of score segment

-- the row of a segment if it is selected, and otherwise nothing
abbrev pub row_if_chosen : ℕ → ℕ → SegmentParts → List ℕ
row_if_chosen answer score segment = text_if_chosen row_of answer score segment

-- 1 for a segment that is selected, and 0 otherwise
abbrev pub chosen_count : ℕ → ℕ
chosen_count answer = if answer == 0 then 0 else 1

-- the text consists of the texts of the selected segments in order, and `count` is their number
abbrev pub IsExtractIn : TextFormat → List Insn → List SegmentParts → List ℕ → ℕ → Type 0
IsExtractIn text_of code [] text count = (text ≡ []) × (count ≡ 0)
IsExtractIn text_of code (segment ∷ segments) text count =
    (answer : ℕ) × (score : ℕ) × (others : List ℕ) × (other_count : ℕ) × Answers code segment answer score
    × (text ≡ text_if_chosen text_of answer score segment ++ others) × (count ≡ chosen_count answer + other_count)
    × IsExtractIn text_of code segments others other_count

-- the text consists of the rows of the selected segments in order, and `rows` is their number
abbrev pub IsExtract : List Insn → List SegmentParts → List ℕ → ℕ → Type 0
IsExtract code segments text rows = IsExtractIn row_of code segments text rows

-- a selected segment, with its score
pub record Selected : Type 0 where
  pub score : ℕ
  pub segment : SegmentParts

-- the segment with its score if it is selected, and otherwise nothing
abbrev pub selected_if_chosen : ℕ → ℕ → SegmentParts → List Selected
selected_if_chosen answer score segment = if answer == 0 then [] else record { score = score; segment = segment } ∷ []

-- these are the selected segments in order, with their scores
abbrev pub IsSelection : List Insn → List SegmentParts → List Selected → Type 0
IsSelection code [] selected = selected ≡ []
IsSelection code (segment ∷ segments) selected =
    (answer : ℕ) × (score : ℕ) × (others : List Selected) × Answers code segment answer score
    × (selected ≡ selected_if_chosen answer score segment ++ others) × IsSelection code segments others

-- the texts of selected segments, one after the other
abbrev pub texts_of : TextFormat → List Selected → List ℕ
texts_of text_of selected = flat_map (λ one. text_of one.score one.segment) selected
