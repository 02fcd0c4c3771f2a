use Rattle.http_message.proofs.TableLemmas.{refused_for_memory, row_inserted}
use Rattle.http_message.proofs.router.insert.Goals as goal
use Rattle.http_message.proofs.router.insert.Goals.{in-OutOfMemory, in_default}

pub prove-unreachable-requires : goal.prove-unreachable-requires
prove-unreachable-requires c =
    let inserts = rw (c.path.ensures.value, c.in-Err.is) at c.insert.ensures in
    let memory = refused_for_memory c.args.route _ _ _ inserts c.requires in
    elim c.match-matches.branch [ in-OutOfMemory w ↦ cc | in_default w ↦ w.in_default.not-OutOfMemory memory ]

pub returns-in-Ok : goal.returns-in-Ok
returns-in-Ok c =
    let inserts = rw (c.path.ensures.value, c.in-Ok.is) at c.insert.ensures in
    (row_inserted c.args.route _ _ _ inserts).1
