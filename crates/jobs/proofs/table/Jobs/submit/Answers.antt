use Rattle.std.proofs.Common.{refl}
use Rattle.std.proofs.lemmas.Result.{err_from_is_err_and}
use Rattle.jobs.proofs.TableLemmas.{jobs_pushed, room, table_pushed}
use Rattle.jobs.proofs.table.Jobs.submit.Goals as goal

pub returns-in_err-insert-clause-err : goal.returns-in_err-insert-clause-err
returns-in_err-insert-clause-err g c =
    let few = rw c.len.ensures.len at c.if-len-ge-MAX_JOBS.false in
    let returned = err_from_is_err_and c.from_residual-in_err-insert.result c.from_residual-in_err-insert.ensures.1 in
    rw (returned.1, returned.2, ← c.self.view_is, c.in_err-insert.ensures.err) (room _ _ _ _ c.self.invariant few c.if-self.false, refl)

pub invariant_of-self-2 : goal.invariant_of-self-2
invariant_of-self-2 g c =
    rw c.in_ok-insert.ensures.entries (table_pushed _ _ _ _ c.self.invariant c.of.result (c.of.ensures.cursor _ c.self.invariant.few))

pub returns-clause-ok : goal.returns-clause-ok
returns-clause-ok g c =
    let few = rw c.len.ensures.len at c.if-len-ge-MAX_JOBS.false in
    let pushed = jobs_pushed _ _ _ _ c.self.invariant c.of.result in
    rw (← c.self.view_is, c.in_ok-insert.ensures.entries, pushed, c.of.ensures.parts)
    (room _ _ _ _ c.self.invariant few c.if-self.false, refl, c.in_ok-verified.verified.code, c.in_ok-verified.ensures.ok, refl)
