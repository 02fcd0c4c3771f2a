use Rattle.wire.specs.State.{new_state}
use Rattle.wire.proofs.EventLemmas.{acts_lead, one_event_lem}
use Rattle.wire.proofs.laws.requests.Goals as goal

pub returns : goal.returns
returns c = record { one_event = one_event_lem; runs = λ codes counties start. acts_lead (new_state codes counties start) }
