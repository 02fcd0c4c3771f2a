use Rattle.bpf_verify.proofs.SoundRuns.{good_is_safe}
use Rattle.bpf_verify.proofs.laws.accepted_is_safe.Goals as goal

pub returns : goal.returns
returns c = good_is_safe
