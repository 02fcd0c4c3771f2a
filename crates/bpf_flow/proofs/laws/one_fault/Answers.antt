use Rattle.bpf_flow.proofs.FlowLemmas.{one_fault_lem}
use Rattle.bpf_flow.proofs.laws.one_fault.Goals as goal

pub returns : goal.returns
returns c = one_fault_lem
