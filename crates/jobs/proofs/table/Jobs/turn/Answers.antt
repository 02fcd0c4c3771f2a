use Rattle.std.proofs.Common.{None, Some, refl, subst, sym}
use Rattle.std.proofs.lemmas.Result.{err_from_is_err_and}
use Rattle.jobs.specs.Inside.{IsCursorIn, parts_of}
use Rattle.jobs.proofs.TableLemmas.{job_found, jobs_changed, jobs_unchanged, table_changed}
use Rattle.jobs.proofs.table.Jobs.turn.Goals as goal

pub advance-requires : goal.advance-requires
advance-requires g c =
    let found = c.in-Some.ensures.member in
    rw c.as_slice.ensures.value
    (subst (λ job. IsCursorIn c.self.inside.counties.items job.cursor) (sym found.1.1)
    (c.self.invariant.cursors found.0 c.in-Some.job.now found.1.0))

pub returns-in_default-clause-err : goal.returns-in_default-clause-err
returns-in_default-clause-err g c =
    rw (← c.self.view_is, c.get_mut.follows.holds-at-none)
    (job_found _ _ _ _ c.self.invariant c.args.id None c.in_default.ensures.value, refl)

pub invariant_of-self-in_err-advance : goal.invariant_of-self-in_err-advance
invariant_of-self-in_err-advance g c =
    let cursor = rw c.as_slice.ensures.value at c.advance.ensures.cursor in
    rw (c.get_mut.follows.holds c.advance.new.self).0 (table_changed _ _ _ _ c.self.invariant c.args.id c.advance.new.self cursor)

pub returns-in_err-advance-clause-err : goal.returns-in_err-advance-clause-err
returns-in_err-advance-clause-err g c =
    let old = c.in-Some.job.now in
    let returned = err_from_is_err_and c.from_residual.result c.from_residual.ensures.1 in
    let there = job_found _ _ _ _ c.self.invariant c.args.id (Some old) c.in-Some.ensures.value in
    let needs_row = rw c.as_slice.ensures.value at c.in_err-advance.ensures.needs_row in
    let same = jobs_unchanged _ _ _ _ c.self.invariant c.args.id old c.advance.new.self c.in-Some.ensures.value c.in_err-advance.ensures.err in
    rw (returned.1, returned.2, ← c.self.view_is, (c.get_mut.follows.holds c.advance.new.self).0, same) (parts_of old, there, needs_row, refl)

pub invariant_of-self-2 : goal.invariant_of-self-2
invariant_of-self-2 g c =
    let cursor = rw c.as_slice.ensures.value at c.advance.ensures.cursor in
    rw (c.get_mut.follows.holds c.advance.new.self).0 (table_changed _ _ _ _ c.self.invariant c.args.id c.advance.new.self cursor)

pub returns-clause-ok : goal.returns-clause-ok
returns-clause-ok g c =
    let old = c.in-Some.job.now in
    let new = c.advance.new.self in
    let there = job_found _ _ _ _ c.self.invariant c.args.id (Some old) c.in-Some.ensures.value in
    let turned = rw c.as_slice.ensures.value at c.in_ok-advance.ensures.ok in
    rw (← c.self.view_is, (c.get_mut.follows.holds new).0, jobs_changed _ _ _ _ c.self.invariant c.args.id new)
    (parts_of old, there, parts_of new, turned, refl, refl, refl)
