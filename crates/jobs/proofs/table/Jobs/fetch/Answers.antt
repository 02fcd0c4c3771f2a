use Rattle.std.proofs.Common.{None, Some, refl}
use Rattle.jobs.specs.Inside.{parts_of}
use Rattle.jobs.proofs.TableLemmas.{job_found}
use Rattle.jobs.proofs.table.Jobs.fetch.Goals as goal

pub returns-in-Some : goal.returns-in-Some
returns-in-Some g c =
    let job = c.in-Some.job.now in
    let there = job_found _ _ _ _ c.self.invariant c.args.id (Some job) c.in-Some.ensures.value in
    rw (← c.self.view_is) (parts_of job, there, refl, c.self.invariant.counted, c.as_slice.ensures.value, refl)

pub returns-in-None : goal.returns-in-None
returns-in-None g c =
    rw (← c.self.view_is) (job_found _ _ _ _ c.self.invariant c.args.id None c.in-None.ensures.value, refl)
