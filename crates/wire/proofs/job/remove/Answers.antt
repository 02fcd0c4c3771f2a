use Rattle.jobs.specs.declared.event.Event.TheVariants as event
use Rattle.wire.proofs.AnswerLemmas.{of_no_job, writes_such}
use Rattle.wire.proofs.job.remove.Goals as goal

pub returns-in-None : goal.returns-in-None
returns-in-None g c = writes_such _ _ _ _ _ (of_no_job event.Drop _ _ c.in-None.ensures) c.no_job.ensures
