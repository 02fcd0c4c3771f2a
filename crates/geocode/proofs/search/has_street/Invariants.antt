use Rattle.std.proofs.Common.{[]}
use Rattle.std.specs.List.{flat_map}
use Rattle.geocode.specs.Street.{parts_of}
use Rattle.geocode.proofs.CandidateLemmas.{IsWalked}
use Rattle.geocode.proofs.SearchLemmas.{sign_of}
use Rattle.geocode.proofs.search.has_street.Given as goal

abbrev pub invariant-loop-candidate : goal.invariant-loop-candidate
invariant-loop-candidate g l = IsWalked (sign_of (parts_of l.street)) l.county.segments (g.C.Candidates.are_left l.candidates l.county.segments) []
    (flat_map (sign_of (parts_of l.street)) l.county.segments)

abbrev pub decreases-loop-candidate : goal.decreases-loop-candidate
decreases-loop-candidate g l = g.C.Candidates.steps l.candidates
