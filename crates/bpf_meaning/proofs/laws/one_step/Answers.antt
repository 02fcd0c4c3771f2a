use Rattle.bpf_meaning.proofs.RunLemmas.{running_continues, exited_ends, stuck_ends}
use Rattle.bpf_meaning.proofs.laws.one_step.Goals as goal

pub returns : goal.returns
returns c = record { running = running_continues; exited = exited_ends; stuck = stuck_ends }
