use Rattle.geocode.specs.Street.{parts_of}
use Rattle.geocode.proofs.StreetLemmas.{NoneFits}
use Rattle.geocode.proofs.street.Street.first_fitting.Given as goal

abbrev pub invariant-loop-n : goal.invariant-loop-n
invariant-loop-n g l = NoneFits (parts_of l.self) l.segment l.n
