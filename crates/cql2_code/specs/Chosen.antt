-- What a filter's program does: it selects the segments on which the filter is true.
use Rattle.std.specs.Prelude.{◌≡◌, ℕ, List, [], ◌∷◌, ◌++◌, length, Option, Some, None, if◌then◌else◌}
use Rattle.bpf_helpers.specs.Meaning as number
use Rattle.bpf_helpers.specs.Meaning.{coordinate, field_number, or_zero}
use Rattle.bpf_insn.specs.declared.instruction.Insn.{Insn}
use Rattle.bpf_meaning.specs.Extract.{Selected, TextFormat, texts_of}
use Rattle.bpf_meaning.specs.Run.{Answers}
use Rattle.cql2.specs.Truth.{selects}
use Rattle.cql2.specs.declared.column.NumericColumn.{NumericColumn}
use Rattle.cql2.specs.declared.column.NumericColumn.TheVariants.{Number, Coordinate}
use Rattle.cql2.specs.declared.filter.Filter.{Filter}
use Rattle.cql2_code.specs.Question.{coordinate_id, field_id}
use Rattle.tl_segments.specs.Segment.{SegmentParts, IsSegment}

-- the score of a selected segment: the number of a column, or a coordinate in two's complement; 0 if there is none
abbrev pub score_of : Option NumericColumn → SegmentParts → ℕ
score_of None segment = 0
score_of (Some (Number column)) segment = or_zero (field_number segment.bytes (field_id column))
score_of (Some (Coordinate column)) segment = coordinate segment.bytes (coordinate_id column)

-- on each segment, the program answers 1 with the score if the filter is true, and otherwise 0 with score 0
abbrev pub Chooses : {A : Type 0} → List Insn → Filter A → Option NumericColumn → Type 0
Chooses code filter score = (segment : SegmentParts) → IsSegment segment
    → Answers code segment (number.truth (selects filter segment)) (if selects filter segment then score_of score segment else 0)

-- the segments for which a filter is true, in order, with their scores
abbrev pub selection_of : {A : Type 0} → Filter A → Option NumericColumn → List SegmentParts → List Selected
selection_of filter score [] = []
selection_of filter score (segment ∷ segments) =
    (if selects filter segment then record { score = score_of score segment; segment = segment } ∷ [] else [])
    ++ selection_of filter score segments

-- the text is the texts of the segments for which a filter is true, and `count` is their number
pub record IsExtractOf {A : Type 0} (text_of : TextFormat) (filter : Filter A) (score : Option NumericColumn) (segments : List SegmentParts)
    (text : List ℕ) (count : ℕ) : Type 0 where
  pub text_is : text ≡ texts_of text_of (selection_of filter score segments)
  pub count_is : count ≡ length (selection_of filter score segments)
