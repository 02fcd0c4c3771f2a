use Rattle.bpf_assembler.proofs.StatementLemmas.{one-fault}
use Rattle.bpf_assembler.proofs.laws.one_fault.Goals as goal

pub returns : goal.returns
returns c = one-fault
