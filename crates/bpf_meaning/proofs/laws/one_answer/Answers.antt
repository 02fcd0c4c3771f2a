use Rattle.bpf_meaning.proofs.RunLemmas.{one_answer_lem}
use Rattle.bpf_meaning.proofs.laws.one_answer.Goals as goal

pub returns : goal.returns
returns c = one_answer_lem
