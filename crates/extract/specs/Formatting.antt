-- What the texts of a format depend on.
use Rattle.std.specs.Prelude.{◌≡◌, ℕ}
use Rattle.bpf_meaning.specs.Extract.{TextFormat}
use Rattle.tl_segments.specs.Segment.{SegmentParts}

-- the text of a segment depends only on the score and the record, and not on the names and ranges that are joined to it
abbrev pub IsOfRecordAlone : TextFormat → Type 0
IsOfRecordAlone text_of =
    (score : ℕ) (segment other : SegmentParts) → segment.bytes ≡ other.bytes → text_of score segment ≡ text_of score other
