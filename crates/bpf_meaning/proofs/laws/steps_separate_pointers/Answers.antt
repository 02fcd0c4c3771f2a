use Rattle.bpf_meaning.proofs.WellFormedLemmas.{step_apart, run_apart}
use Rattle.bpf_meaning.proofs.laws.steps_separate_pointers.Goals as goal

pub returns : goal.returns
returns c = record { step = step_apart; run = run_apart }
