use Rattle.bpf_meaning.proofs.WellFormedLemmas.{step_well_formed, run_well_formed}
use Rattle.bpf_meaning.proofs.laws.steps_preserve_shape.Goals as goal

pub returns : goal.returns
returns c = record { step = step_well_formed; run = run_well_formed }
