use Rattle.http_message.specs.Status.{statuses}
use Rattle.metrics.proofs.TextLemmas.{piece_step}
use Rattle.metrics.proofs.counters.Counters.push_replies.Goals as goal

pub loop-status-preserved : goal.loop-status-preserved
loop-status-preserved g c =
    rw (c.in_ok-push_reply.ensures, c.replies.ensures)
    (piece_step _ statuses _ c.loop-status.status-index _ _ c.loop-status-test.true c.loop-status.invariant)
