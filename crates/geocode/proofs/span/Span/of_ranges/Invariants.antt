use Rattle.std.proofs.Common.{◌≡◌, [], take, false}
use Rattle.std.specs.List.{flat_map}
use Rattle.tl_segments.specs.Segment.{ranges_of}
use Rattle.geocode.specs.Hits.{hits_on_range}
use Rattle.geocode.specs.Span.{covers}
use Rattle.geocode.specs.declared.house.House.{House}
use Rattle.geocode.proofs.span.Span.of_ranges.Given as goal

-- a house that the span doesn't cover has no hit on the ranges so far
abbrev pub invariant-loop-n : goal.invariant-loop-n
invariant-loop-n g l = (house : House) → covers l.span house.number ≡ false
    → flat_map (hits_on_range house l.segment.bytes) (take l.n (ranges_of l.segment)) ≡ []
