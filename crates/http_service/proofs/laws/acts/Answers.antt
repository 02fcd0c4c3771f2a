use Rattle.http_service.proofs.ActLemmas.{rounds_are_acts}
use Rattle.http_service.proofs.laws.acts.Goals as goal

pub returns : goal.returns
returns g c = λ limits. rounds_are_acts g.L.Listener.accepts limits _
