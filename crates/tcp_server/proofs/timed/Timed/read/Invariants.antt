use Rattle.std.specs.Duration.{as_nanos}
use Rattle.std.specs.Io.KnownBytes.{Keeps}
use Rattle.tcp_server.specs.Repeats.{Repeats}
use Rattle.tcp_server.specs.Timed.{IsInterrupted}
use Rattle.tcp_server.proofs.timed.Timed.read.Given as goal

abbrev pub invariant-loop-attempt : goal.invariant-loop-attempt
invariant-loop-attempt g l =
    Repeats
    (IsInterrupted (record {
      calls = g.H.Socket.reads;
      timing = record { shows = g.T.Timer.shows; idle = as_nanos l.fn.idle; limit = as_nanos l.fn.limit };
    }))
    l._attempt l.initial.self l.self
    × Keeps (g.H.Socket.remaining l.initial.self.socket) (g.H.Socket.remaining l.self.socket)
