use Rattle.std.proofs.Common.{List, ◌++◌, take}
use Rattle.geocode.specs.Matches.{HitsAgree, MatchParts, matches}
use Rattle.geocode.specs.Street.{parts_of}
use Rattle.geocode.proofs.gazetteer.Gazetteer.push_found.Given as goal

-- the matches in the counties so far were appended
abbrev pub invariant-loop-n : goal.invariant-loop-n
invariant-loop-n g l = ((so_far : List MatchParts) → g.F.Findings.has l.initial.found so_far
    → g.F.Findings.has l.found (so_far ++ matches (parts_of l.search.street) l.search.house (take l.n l.counties)))
    × HitsAgree (parts_of l.search.street) l.search.house (take l.n l.counties)
