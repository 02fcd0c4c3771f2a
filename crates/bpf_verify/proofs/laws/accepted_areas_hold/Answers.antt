use Rattle.bpf_verify.proofs.AreaLemmas.{areas_hold}
use Rattle.bpf_verify.proofs.laws.accepted_areas_hold.Goals as goal

pub returns : goal.returns
returns c = areas_hold
