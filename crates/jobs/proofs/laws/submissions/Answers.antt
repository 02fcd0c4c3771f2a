use Rattle.jobs.proofs.VerdictLemmas.{one_reply}
use Rattle.jobs.proofs.laws.submissions.Goals as goal

pub returns : goal.returns
returns c = one_reply
