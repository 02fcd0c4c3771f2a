use Rattle.std.proofs.Common.{◌≡◌, true, map, take}
use Rattle.address_batch.specs.LookupResult.{are_all_at}
use Rattle.geocode.specs.Matches.{match_of}
use Rattle.address_batch.proofs.lookup.are_all_at.Given as goal

abbrev pub invariant-loop-other : goal.invariant-loop-other
invariant-loop-other l = are_all_at l.place (map match_of (take l.other-index l.found)) ≡ true
