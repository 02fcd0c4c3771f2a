use Rattle.bpf_meaning.proofs.WellFormedLemmas.{step_bytes, run_bytes}
use Rattle.bpf_meaning.proofs.laws.states_hold_bytes.Goals as goal

pub returns : goal.returns
returns c = record { step = step_bytes; run = run_bytes }
