use Rattle.bpf_assembler.proofs.StatementLemmas.{one-code}
use Rattle.bpf_assembler.proofs.laws.one_code.Goals as goal

pub returns : goal.returns
returns c = one-code
