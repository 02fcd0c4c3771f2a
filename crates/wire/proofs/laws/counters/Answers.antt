use Rattle.wire.proofs.CountingLemmas.{keeps_counters}
use Rattle.wire.proofs.laws.counters.Goals as goal

pub returns : goal.returns
returns c = λ input request_read old new reply counters. keeps_counters counters old new input request_read reply
