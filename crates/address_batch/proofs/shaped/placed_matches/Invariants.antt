use Rattle.std.proofs.Common.{map, take}
use Rattle.address_batch.specs.ShapedLookup.{ArePlaced}
use Rattle.geocode.specs.Matches.{match_of}
use Rattle.address_batch.proofs.shaped.placed_matches.Given as goal

abbrev pub invariant-loop-one : goal.invariant-loop-one
invariant-loop-one g l = ArePlaced l.number l.counties (map match_of (take l.one-index l.found)) (map match_of l.placed.items)
