use Rattle.bpf_insn.proofs.CodeLemmas as code
use Rattle.bpf_insn.proofs.laws.one_fault.Goals as goal

pub returns : goal.returns
returns g = code.one_fault
