use Rattle.bpf_meaning.proofs.RecordLemmas.{answers_alike}
use Rattle.bpf_meaning.proofs.laws.record_decides.Goals as goal

pub returns : goal.returns
returns c = answers_alike
