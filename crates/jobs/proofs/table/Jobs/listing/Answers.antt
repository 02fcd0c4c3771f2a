use Rattle.std.proofs.Common.{◌≡◌, subst}
use Rattle.jobs.specs.Table.{total_of}
use Rattle.jobs.proofs.ListingLemmas.{line_step}
use Rattle.jobs.proofs.table.Jobs.listing.Goals as goal

pub loop-id-preserved : goal.loop-id-preserved
loop-id-preserved g c =
    let counted = subst (λ table. c.self.inside.total ≡ total_of table) c.self.view_is c.self.invariant.counted in
    line_step (total_of c.args.self.now) c.loop-id.text.items (c.in-Some.id.now, c.in-Some.job.now) _ _ c.loop-id.invariant c.in-Some.ensures.steps
    (rw counted at c.in_ok-push_line.ensures)
