use Rattle.std.proofs.Common.{take}
use Rattle.geocode.specs.Gazetteer.{AreIndexesOf}
use Rattle.geocode.proofs.gazetteer.Gazetteer.of.Given as goal

abbrev pub invariant-loop-county : goal.invariant-loop-county
invariant-loop-county g l = AreIndexesOf l.indexes.items (take l.county-index l.counties)
