-- Spans of house numbers: which numbers may be on a segment, without reading its records.
use Rattle.std.specs.Prelude.{◌≡◌, ℕ, ◌/◌, ◌-◌, ◌^◌, min, max, nat_le, Bool, false, ◌&&◌, []}
use Rattle.tl_segments.specs.Range.{lies_on}
use Rattle.tl_segments.specs.Segment.{SegmentParts}
use Rattle.tl_segments.specs.declared.range.RangeFields.{RangeFields}
use Rattle.geocode.specs.Hits.{hits_on_segment}
use Rattle.geocode.specs.Sides.{SideParts, side_of}
use Rattle.geocode.specs.declared.hit.Side.{Side}
use Rattle.geocode.specs.declared.house.House.{House}
use Rattle.geocode.specs.declared.span.Span.{Span}

-- half a house number, at most the greatest 16-bit number
abbrev pub bucket : ℕ → ℕ
bucket number = min (number / 2) (2 ^ 16 - 1)

-- a house with this number may be on the segment
abbrev pub covers : Span → ℕ → Bool
covers span number = nat_le span.low (bucket number) && nat_le (bucket number) span.high

-- the span extended by this number
abbrev pub widened : Span → ℕ → Span
widened span number = record { low = min span.low (bucket number); high = max span.high (bucket number) }

-- a house whose number isn't covered has no hit on the segment
abbrev pub IncludesHits : Span → SegmentParts → Type 0
IncludesHits span segment = (house : House) → covers span house.number ≡ false → hits_on_segment house segment ≡ []

-- the new span covers what the old one does, plus the numbers on the side
abbrev pub IncludesSide : Span → Span → SideParts → Type 0
IncludesSide old new side =
    (number : ℕ) → covers new number ≡ false → (covers old number ≡ false) × (lies_on number side.from side.to ≡ false)

-- and plus the numbers on both sides of a range
abbrev pub IncludesRange : Span → Span → RangeFields → Type 0
IncludesRange old new range =
    (number : ℕ) → covers new number ≡ false
    → (covers old number ≡ false) × ((side : Side) → lies_on number (side_of range side).from (side_of range side).to ≡ false)
