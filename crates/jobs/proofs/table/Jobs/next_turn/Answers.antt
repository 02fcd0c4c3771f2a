use Rattle.std.proofs.Common.{◌≡◌, ◌∙◌, ap, subst, sym}
use Rattle.jobs.specs.Inside.{Ascend, jobs_of, parts_of}
use Rattle.jobs.specs.Table.{total_of}
use Rattle.jobs.proofs.MapLemmas.{Ascend-seen}
use Rattle.jobs.proofs.NextLemmas.{FirstOf, all_seen, next_same, next_changed, next_turn_is, none_seen}
use Rattle.jobs.proofs.table.Jobs.next_turn.Goals as goal

pub loop-id-init : goal.loop-id-init
loop-id-init g c =
    none_seen _ _ _ (subst (λ table. c.self.inside.total ≡ total_of table) c.self.view_is c.self.invariant.counted)

pub loop-id-preserved-then-job-least : goal.loop-id-preserved-then-job-least
loop-id-preserved-then-job-least g c =
    let all = c.into_iter-id-iterator.ensures.into_iter_gives ∙ c.iter-id-items.ensures.rest in
    let ascend = subst (λ entries. Ascend 0 entries c.self.inside.last_id) (sym all) c.self.invariant.ascend in
    next_changed _ _ (c.in-Some.id.now, c.in-Some.job.now) _ _ _ ascend _ _ c.loop-id.invariant c.in-Some.ensures.steps c.if-job-least.true

pub loop-id-preserved : goal.loop-id-preserved
loop-id-preserved g c =
    let all = c.into_iter-id-iterator.ensures.into_iter_gives ∙ c.iter-id-items.ensures.rest in
    let ascend = subst (λ entries. Ascend 0 entries c.self.inside.last_id) (sym all) c.self.invariant.ascend in
    next_same _ _ (c.in-Some.id.now, c.in-Some.job.now) _ _ _ ascend _ _ c.loop-id.invariant c.in-Some.ensures.steps c.if-job-least.false

pub returns : goal.returns
returns g c =
    let all = c.into_iter-id-iterator.ensures.into_iter_gives ∙ c.iter-id-items.ensures.rest in
    let ascend = subst (λ table. Ascend 0 table.jobs table.last_id) c.self.view_is
    (Ascend-seen parts_of 0 c.self.inside.jobs.entries c.self.inside.last_id c.self.invariant.ascend) in
    next_turn_is c.args.self.now _ c.loop-id.least ascend
    (subst (λ jobs. FirstOf (total_of c.args.self.now) jobs c.loop-id.next c.loop-id.least)
    (ap jobs_of all ∙ ap (λ table. table.jobs) c.self.view_is)
    (all_seen _ _ _ _ _ c.loop-id.invariant c.in-None.ensures.steps.0))
