use Rattle.wire.proofs.EventLemmas.{own_reply}
use Rattle.wire.proofs.laws.isolation.Goals as goal

pub returns : goal.returns
returns c = own_reply
