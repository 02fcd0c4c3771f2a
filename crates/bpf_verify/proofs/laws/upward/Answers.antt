use Rattle.bpf_verify.proofs.MonotoneInstructions as is_monotone
use Rattle.bpf_verify.proofs.laws.upward.Goals as goal

pub returns : goal.returns
returns c = is_monotone.upward
