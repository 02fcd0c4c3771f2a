use Rattle.std.proofs.Common.{rules, inl, inr}
use Rattle.tcp_server.proofs.RepeatsLemmas.{one_more}
use Rattle.tcp_server.specs.Acceptor.{SkipsAccept}
use Rattle.tcp_server.proofs.acceptor.Acceptor.accept.Goals as goal

pub returns-then-self : goal.returns-then-self
returns-then-self g c =
    record { now = c.loop-self.self; skips = c.loop-self.invariant; fails = inr (record { full = search rules; same = search rules }) }

pub returns-in-Ok : goal.returns-in-Ok
returns-in-Ok g c =
    record { now = c.loop-self.self; skips = c.loop-self.invariant; accept = record { room = search rules; counted = search rules; accept = search rules }; number = search rules }

pub returns-then-not-is_transient : goal.returns-then-not-is_transient
returns-then-not-is_transient g c =
    record {
      now = c.loop-self.self;
      skips = c.loop-self.invariant;
      fails = inl (record { permanent = search rules; accept = record { room = search rules; counted = search rules; accept = search rules } });
    }

pub loop-self-preserved : goal.loop-self-preserved
loop-self-preserved g c =
    one_more (SkipsAccept g.L.Listener.accepts) _ c.loop-self.self _ c.loop-self.invariant
    (record { error = c.in-Err.error; transient = search rules; accept = record { room = search rules; counted = search rules; accept = search rules } })
