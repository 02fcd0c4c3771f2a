use Rattle.std.proofs.Common.{◌-◌, ◌^◌}
use Rattle.tcp_server.specs.Repeats.{HasRepeated}
use Rattle.tcp_server.specs.Rounds.{IsRound}
use Rattle.tcp_server.specs.Tally.{ServesTallied, TurnsTallied}
use Rattle.tcp_server.proofs.serving.serve_all.Given as goal

abbrev pub invariant-loop-error : goal.invariant-loop-error
invariant-loop-error g l =
    HasRepeated
    (IsRound (record { accepts = g.L.Listener.accepts; serves = ServesTallied g.S.Service.serves; turns = TurnsTallied g.S.Service.turns; limits = l.limits }))
    (record { acceptor = l.initial.acceptor; service = l.initial.service }) (record { acceptor = l.acceptor; service = l.service })

abbrev pub decreases-loop-error : goal.decreases-loop-error
decreases-loop-error g l = 2 ^ 64 - 1 - l.acceptor.attempts
