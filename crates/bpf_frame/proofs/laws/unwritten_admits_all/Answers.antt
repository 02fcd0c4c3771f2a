use Rattle.bpf_frame.proofs.AdmitLemmas.{unwritten_admits}
use Rattle.bpf_frame.proofs.ProperLemmas.{unwritten_is_proper}
use Rattle.bpf_frame.proofs.laws.unwritten_admits_all.Goals as goal

pub returns-clause-proper : goal.returns-clause-proper
returns-clause-proper c = unwritten_is_proper

pub returns-clause-admits : goal.returns-clause-admits
returns-clause-admits c = unwritten_admits
