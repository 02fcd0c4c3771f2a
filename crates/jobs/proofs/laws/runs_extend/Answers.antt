use Rattle.jobs.proofs.RunLemmas.{run_push}
use Rattle.jobs.proofs.laws.runs_extend.Goals as goal

pub returns : goal.returns
returns c = run_push
