-- Candidates: the segments of a county that a search looks at.
use Rattle.std.specs.Prelude.{◌≡◌, ℕ, ◌+◌, Bool, true, false, if◌then◌else◌, List, [], ◌∷◌, length, drop, Option, Some, None, slice_get, unwrap_or}
use Rattle.tl_segments.specs.Segment.{SegmentParts, blank_segment}
use Rattle.geocode.specs.Hits.{has_name}
use Rattle.geocode.specs.Span.{IncludesHits}
use Rattle.geocode.specs.declared.candidates.AllSegments.{AllSegments}
use Rattle.geocode.specs.declared.candidates.Candidate.{Candidate}
use Rattle.geocode.specs.declared.span.Span.{Span}

-- the segment with a number, counted from 0
abbrev pub segment_at : List SegmentParts → ℕ → SegmentParts
segment_at segments n = unwrap_or (slice_get segments n) blank_segment

-- the numbers of the segments that pass a test, if the first segment has this number
abbrev pub numbers_with : (SegmentParts → Bool) → ℕ → List SegmentParts → List ℕ
numbers_with test n [] = []
numbers_with test n (segment ∷ segments) =
    if test segment then n ∷ numbers_with test (n + 1) segments else numbers_with test (n + 1) segments

-- this is the candidate with a number, with a span of its house numbers
pub record IsCandidate (segments : List SegmentParts) (n : ℕ) (found : Option Candidate) : Type 0 where
  pub span : Span
  pub candidate : found ≡ Some (record { segment = n; span = span })
  pub includes : IncludesHits span (segment_at segments n)

-- this is the first of the candidates with these numbers, and the others are left; there may be none
abbrev pub IsNext : List SegmentParts → (List ℕ → Type 0) → List ℕ → Option Candidate → Type 0
IsNext segments are_left [] found = found ≡ None
IsNext segments are_left (n ∷ numbers) found = IsCandidate segments n found × are_left numbers

-- the candidates are the segments that pass a test, in order, and a segment that fails it doesn't have the name
pub record IsComplete (are_left : List ℕ → Type 0) (name : List ℕ) (segments : List SegmentParts) : Type 0 where
  pub test : SegmentParts → Bool
  pub left : are_left (numbers_with test 0 segments)
  pub complete : (segment : SegmentParts) → test segment ≡ false → has_name name segment ≡ false

-- the segments from the next one on are left
pub record AreFrom (all : AllSegments) (segments : List SegmentParts) (numbers : List ℕ) : Type 0 where
  pub count : all.count ≡ length segments
  pub numbered : numbers ≡ numbers_with (λ segment. true) all.next (drop all.next segments)
