use Rattle.numerals.proofs.DegreesLemmas.{millionths_in-degrees}
use Rattle.numerals.proofs.laws.reads_back.Goals as goal

pub returns : goal.returns
returns c = millionths_in-degrees
