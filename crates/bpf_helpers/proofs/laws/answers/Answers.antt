-- The answer of a call.
use Rattle.bpf_helpers.proofs.CallLemmas.{answer-admits, answer-fits}
use Rattle.bpf_helpers.proofs.laws.answers.Goals as goal

pub returns-clause-interval : goal.returns-clause-interval
returns-clause-interval c = answer-admits

pub returns-clause-word : goal.returns-clause-word
returns-clause-word c = answer-fits
