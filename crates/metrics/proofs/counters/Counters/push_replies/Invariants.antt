use Rattle.std.proofs.Common.{◌++◌}
use Rattle.http_message.specs.Status.{statuses}
use Rattle.metrics.proofs.TextLemmas.{Remain}
use Rattle.metrics.specs.Counters.{replies_of}
use Rattle.metrics.specs.Text.{replies_text, reply_line}
use Rattle.metrics.proofs.counters.Counters.push_replies.Given as goal

-- the samples of the statuses left are to be appended
abbrev pub invariant-loop-status : goal.invariant-loop-status
invariant-loop-status g l =
    Remain (λ status. reply_line l.route status (replies_of l.self l.route status)) statuses l.status-index l.text.items
    (l.initial.text.items ++ replies_text l.self l.route)
