use Rattle.std.proofs.Common.{List, ◌++◌, take}
use Rattle.std.specs.List.{flat_map}
use Rattle.tl_segments.specs.Segment.{ranges_of}
use Rattle.geocode.specs.Matches.{MatchParts, matches_on_range, matching_of}
use Rattle.geocode.proofs.matching_segment.MatchingSegment.push_matches.Given as goal

-- the matches on the ranges so far were appended
abbrev pub invariant-loop-n : goal.invariant-loop-n
invariant-loop-n g l = (matches : List MatchParts) → g.F.Findings.has l.initial.found matches
    → g.F.Findings.has l.found (matches ++ flat_map (matches_on_range l.house (matching_of l.self)) (take l.n (ranges_of l.self.segment.now)))
