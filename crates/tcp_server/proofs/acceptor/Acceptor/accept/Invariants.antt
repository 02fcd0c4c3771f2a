use Rattle.std.proofs.Common.{◌-◌, ◌^◌}
use Rattle.tcp_server.specs.Acceptor.{SkipsAccept}
use Rattle.tcp_server.specs.Repeats.{HasRepeated}
use Rattle.tcp_server.proofs.acceptor.Acceptor.accept.Given as goal

abbrev pub invariant-loop-self : goal.invariant-loop-self
invariant-loop-self g l = HasRepeated (SkipsAccept g.L.Listener.accepts) l.initial.self l.self

abbrev pub decreases-loop-self : goal.decreases-loop-self
decreases-loop-self g l = 2 ^ 64 - 1 - l.self.attempts
