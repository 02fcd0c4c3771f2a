use Rattle.std.proofs.Common.{◌^◌}
use Rattle.std.specs.Duration.{as_nanos}
use Rattle.tcp_server.specs.Closing.{DropsBytes}
use Rattle.tcp_server.specs.Timed.{within}
use Rattle.tcp_server.specs.Repeats.{HasRepeated}
use Rattle.tcp_server.proofs.serving.drop_unread.Given as goal

abbrev pub invariant-loop-room : goal.invariant-loop-room
invariant-loop-room g l =
    HasRepeated (DropsBytes (within g.H.Socket.reads g.T.Timer.shows (as_nanos l.limit)))
    (record { timed = l.initial.timed; room = 2 ^ 20 }) (record { timed = l.timed; room = l.room })

abbrev pub decreases-loop-room : goal.decreases-loop-room
decreases-loop-room g l = l.room
