use Rattle.std.proofs.Common.{◌≡◌, map, take}
use Rattle.geocode.specs.Matches.{HitsAgree, MatchParts, matches}
use Rattle.geocode.specs.Street.{parts_of}
use Rattle.geocode.proofs.hits.find.Given as goal

-- the hits are those of the matches in the counties so far
abbrev pub invariant-loop-index : goal.invariant-loop-index
invariant-loop-index g l =
    (l.hits.items ≡ map (λ (found : MatchParts). found.hit) (matches (parts_of l.search.street) l.search.house (take l.index l.counties)))
    × HitsAgree (parts_of l.search.street) l.search.house (take l.index l.counties)
