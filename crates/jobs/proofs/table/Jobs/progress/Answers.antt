use Rattle.std.proofs.Common.{◌≡◌, ◌∙◌, arith, subst}
use Rattle.jobs.specs.Table.{total_of}
use Rattle.jobs.proofs.ProgressLemmas.{counted, not_counted, so_far-le}
use Rattle.jobs.proofs.table.Jobs.progress.Goals as goal

pub overflow_add-running : goal.overflow_add-running
overflow_add-running g c =
    let total = subst (λ table. c.self.inside.total ≡ total_of table) c.self.view_is c.self.invariant.counted in
    let more = counted (total_of c.args.self.now) c.loop-id.running _ (c.in-Some._id.now, c.in-Some.job.now) _ _ c.loop-id.invariant
    c.in-Some.ensures.steps (rw total at c.if-job-self.true) in
    let few = so_far-le (total_of c.args.self.now) _ _ _ _ more
    (c.into_iter-id-iterator.ensures.into_iter_gives ∙ c.iter-id-items.ensures.rest) in
    omega (arith, c.len-open.ensures.len)

pub overflow_sub-result : goal.overflow_sub-result
overflow_sub-result g c =
    let few = so_far-le (total_of c.args.self.now) c.loop-id.running _ _ _ c.loop-id.invariant
    (c.into_iter-id-iterator.ensures.into_iter_gives ∙ c.iter-id-items.ensures.rest) in
    omega (arith, c.len-open.ensures.len)

pub loop-id-preserved : goal.loop-id-preserved
loop-id-preserved g c =
    let total = subst (λ table. c.self.inside.total ≡ total_of table) c.self.view_is c.self.invariant.counted in
    not_counted (total_of c.args.self.now) c.loop-id.running _ (c.in-Some._id.now, c.in-Some.job.now) _ _ c.loop-id.invariant
    c.in-Some.ensures.steps (rw total at c.if-job-self.false)
