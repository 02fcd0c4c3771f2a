use Rattle.bpf_assembler.proofs.OperandLemmas.{register-named}
use Rattle.bpf_assembler.proofs.laws.register_names.Goals as goal

pub returns : goal.returns
returns c = register-named
