use Rattle.std.specs.Duration.{as_nanos}
use Rattle.std.specs.Io.KnownBytes.{Keeps}
use Rattle.tcp_server.specs.Repeats.{Repeats}
use Rattle.tcp_server.specs.Timed.{IsInterrupted, within}
use Rattle.tcp_server.proofs.timed.Timed.write.Given as goal

abbrev pub invariant-loop-attempt : goal.invariant-loop-attempt
invariant-loop-attempt g l =
    Repeats (IsInterrupted (within g.H.Socket.writes g.T.Timer.shows (as_nanos l.fn.limit))) l._attempt l.initial.self l.self
    × Keeps (g.H.Socket.contents l.initial.self.socket) (g.H.Socket.contents l.self.socket)
