use Rattle.std.proofs.Common.{None, Some, refl}
use Rattle.jobs.specs.Inside.{parts_of}
use Rattle.jobs.proofs.TableLemmas.{job_found, jobs_removed, table_removed}
use Rattle.jobs.proofs.table.Jobs.remove.Goals as goal

pub invariant_of-self : goal.invariant_of-self
invariant_of-self g c = rw c.remove.ensures.entries (table_removed _ _ _ _ c.self.invariant c.args.id)

pub invariant_of-self-2 : goal.invariant_of-self-2
invariant_of-self-2 g c = rw c.remove.ensures.entries (table_removed _ _ _ _ c.self.invariant c.args.id)

pub returns-clause-ok : goal.returns-clause-ok
returns-clause-ok g c =
    let there = job_found _ _ _ _ c.self.invariant c.args.id (Some c.in-Some._job) c.in-Some.ensures.value in
    rw (← c.self.view_is, c.remove.ensures.entries, jobs_removed _ _ _ _ c.self.invariant c.args.id)
    ((parts_of c.in-Some._job, there), refl)

pub returns-in_default-clause-err : goal.returns-in_default-clause-err
returns-in_default-clause-err g c =
    rw (← c.self.view_is, c.in_default.ensures.unchanged)
    (job_found _ _ _ _ c.self.invariant c.args.id None c.in_default.ensures.value, refl)
