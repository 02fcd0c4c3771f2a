use Rattle.std.proofs.Common.{List, ◌++◌}
use Rattle.geocode.specs.Matches.{MatchParts}
use Rattle.geocode.specs.Street.{parts_of}
use Rattle.geocode.proofs.SearchLemmas.{IsSearched}
use Rattle.geocode.proofs.search.Search.push_in_county.Given as goal

-- the search has come to some matches, which were appended
abbrev pub invariant-loop-candidate : goal.invariant-loop-candidate
invariant-loop-candidate g l = (more : List MatchParts)
    × IsSearched (parts_of l.self.street) l.self.house l.county_index l.county (g.C.Candidates.are_left l.candidates l.county.segments) more
    × ((matches : List MatchParts) → g.F.Findings.has l.initial.found matches → g.F.Findings.has l.found (matches ++ more))

abbrev pub decreases-loop-candidate : goal.decreases-loop-candidate
decreases-loop-candidate g l = g.C.Candidates.steps l.candidates
