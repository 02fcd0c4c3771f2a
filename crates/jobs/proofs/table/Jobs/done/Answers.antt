use Rattle.std.proofs.Common.{None, Some, ap, sym}
use Rattle.jobs.specs.Progress.{done_in}
use Rattle.jobs.proofs.TableLemmas.{job_found}
use Rattle.jobs.proofs.table.Jobs.done.Goals as goal

pub returns-in-Some : goal.returns-in-Some
returns-in-Some g c =
    rw (← c.self.view_is) (sym (ap done_in (job_found _ _ _ _ c.self.invariant c.args.id (Some c.in-Some.job.now) c.in-Some.ensures.value)))

pub returns-in-None : goal.returns-in-None
returns-in-None g c =
    rw (← c.self.view_is) (sym (ap done_in (job_found _ _ _ _ c.self.invariant c.args.id None c.in-None.ensures.value)))
