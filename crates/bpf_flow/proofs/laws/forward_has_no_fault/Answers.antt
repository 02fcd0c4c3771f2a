use Rattle.bpf_flow.proofs.FlowLemmas.{has_no_fault}
use Rattle.bpf_flow.proofs.laws.forward_has_no_fault.Goals as goal

pub returns : goal.returns
returns c = has_no_fault
