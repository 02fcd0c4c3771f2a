use Rattle.std.proofs.Common.{◌≡◌, false, take}
use Rattle.geocode.specs.Matches.{has_street}
use Rattle.geocode.specs.Street.{parts_of}
use Rattle.geocode.proofs.gazetteer.Gazetteer.has_street.Given as goal

abbrev pub invariant-loop-n : goal.invariant-loop-n
invariant-loop-n g l = has_street (parts_of l.street) (take l.n l.counties) ≡ false
