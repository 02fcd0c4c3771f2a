use Rattle.wire.proofs.DecisionLemmas.{announcing, decides_no_length, decides_short_body, decides_with_body, stops_in_body, undecided_in_body}
use Rattle.wire.proofs.decision.read_routed.Goals as goal

pub returns-in-Err-clause-ok : goal.returns-in-Err-clause-ok
returns-in-Err-clause-ok g c = λ start reads.
    rw c.length_status.ensures
    (decides_no_length _ _ c.in-Err.fault _ _ (announcing reads c.requires.named c.requires.requests c.requires.takes c.in-Err.ensures))

pub returns-in-Ok-read_body-clause-ok : goal.returns-in-Ok-read_body-clause-ok
returns-in-Ok-read_body-clause-ok g c = λ start reads.
    rw (c.requires.path, c.requires.query)
    (decides_with_body _ _ _ _ _ _ (announcing reads c.requires.named c.requires.requests c.requires.takes c.in-Ok.ensures) _
    (rw c.after_head.ensures at c.in-Ok-read_body.ensures))

pub returns-in-Err-Short-clause-ok : goal.returns-in-Err-Short-clause-ok
returns-in-Err-Short-clause-ok g c = λ start reads.
    decides_short_body _ _ _ _ _ _ (announcing reads c.requires.named c.requires.requests c.requires.takes c.in-Ok.ensures)
    (rw (c.in-Err-Short.field-0-is, c.after_head.ensures) at c.in-Err-Short.ensures)

pub returns-in-Err-Read-clause-err : goal.returns-in-Err-Read-clause-err
returns-in-Err-Read-clause-err g c = λ start reads.
    undecided_in_body _ _ _ _ _ _ (announcing reads c.requires.named c.requires.requests c.requires.takes c.in-Ok.ensures)
    (rw (c.in-Err-Read.field-0-is, c.after_head.ensures) at c.in-Err-Read.ensures)

pub returns-in-Err-Memory-clause-err : goal.returns-in-Err-Memory-clause-err
returns-in-Err-Memory-clause-err g c = λ start reads.
    stops_in_body _ _ _ _ _ _ (announcing reads c.requires.named c.requires.requests c.requires.takes c.in-Ok.ensures)
    (rw (c.in-Err-Memory.field-0-is, c.after_head.ensures) at c.in-Err-Memory.ensures)
