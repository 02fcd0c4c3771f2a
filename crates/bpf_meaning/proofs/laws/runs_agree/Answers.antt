use Rattle.bpf_meaning.proofs.RunLemmas.{runs_agree_lem}
use Rattle.bpf_meaning.proofs.laws.runs_agree.Goals as goal

pub returns : goal.returns
returns c = runs_agree_lem
