use Rattle.bpf_frame.proofs.ReadLemmas.{all_written_is}
use Rattle.bpf_frame.proofs.laws.all_written_is_exact.Goals as goal

pub returns : goal.returns
returns c = all_written_is
