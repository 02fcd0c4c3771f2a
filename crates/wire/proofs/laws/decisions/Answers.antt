use Rattle.wire.proofs.DecisionLemmas.{one_decision}
use Rattle.wire.proofs.laws.decisions.Goals as goal

pub returns : goal.returns
returns c = record { one = one_decision }
