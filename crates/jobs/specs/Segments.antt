-- The segments of counties, and an extract that advances by a turn.
use Rattle.std.specs.Prelude.{◌≡◌, ℕ, ◌+◌, List, ◌++◌, length, take, drop, min, Contains}
use Rattle.std.specs.List.{flat_map}
use Rattle.bpf_insn.specs.declared.instruction.Insn.{Insn}
use Rattle.bpf_meaning.specs.Extract.{IsExtract}
use Rattle.extract.specs.Rows.{IsChosen}
use Rattle.tl_segments.specs.County.{CountyParts}
use Rattle.tl_segments.specs.Segment.{SegmentParts}
use Rattle.jobs.specs.declared.turn.TheConstants.{SEGMENTS_PER_TURN}

-- the segments of all counties, in order
abbrev pub segments_of : List CountyParts → List SegmentParts
segments_of counties = flat_map (λ county. county.segments) counties

-- the segments of a turn: the next ones after the first `done`, as many as a turn has, or all that are left
abbrev pub next_segments : List SegmentParts → ℕ → List SegmentParts
next_segments segments done = take SEGMENTS_PER_TURN (drop done segments)

-- After the first `done` segments, the extract of a turn's segments was appended to the rows.
pub record Advances (code : List Insn) (segments : List SegmentParts) (done : ℕ) (rows : List ℕ) (new_done : ℕ) (new_rows : List ℕ) : Type 0 where
  pub moved : new_done ≡ min (length segments) (done + SEGMENTS_PER_TURN)
  pub text : List ℕ
  pub chosen : ℕ
  pub is_extract : IsExtract code (next_segments segments done) text chosen
  pub appended : new_rows ≡ rows ++ text

-- a row needs memory: the code selects one of a turn's segments
abbrev pub NeedsRow : List Insn → List SegmentParts → ℕ → Type 0
NeedsRow code segments done = (segment : SegmentParts) × Contains (next_segments segments done) segment × IsChosen code segment
