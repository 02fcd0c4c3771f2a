use Rattle.std.proofs.Common.{rules, inl, inr}
use Rattle.std.proofs.lemmas.Result.{err_from_is_err_and}
use Rattle.tcp_server.proofs.BytesLemmas.{keeps_twice}
use Rattle.tcp_server.proofs.RepeatsLemmas.{one_more_of}
use Rattle.tcp_server.proofs.timed.Timed.write.Goals as goal

pub returns-in_err-wait-clause-waits : goal.returns-in_err-wait-clause-waits
returns-in_err-wait-clause-waits g c =
    let p = err_from_is_err_and c.from_residual.result c.from_residual.ensures.1 in
    rw (p.1, p.2)
    (record {
      now = c.loop-attempt.self;
      interrupted = record { count = c.loop-attempt._attempt; steps = c.loop-attempt.invariant.0 };
      ends = inl (inr (record { left = search rules; socket = search rules }));
    })

pub returns-in-Ok-clause-waits : goal.returns-in-Ok-clause-waits
returns-in-Ok-clause-waits g c = record {
  now = c.loop-attempt.self;
  interrupted = record { count = c.loop-attempt._attempt; steps = c.loop-attempt.invariant.0 };
  ends = inl (record { time = c.in_ok-wait.wait; left = search rules; call = search rules });
}

pub returns-then-ne-clause-waits : goal.returns-then-ne-clause-waits
returns-then-ne-clause-waits g c = record {
  now = c.loop-attempt.self;
  interrupted = record { count = c.loop-attempt._attempt; steps = c.loop-attempt.invariant.0 };
  ends = inl (inl (record {
    uninterrupted = search rules;
    call = record { time = c.in_ok-wait.wait; left = search rules; call = search rules };
  }));
}

pub loop-attempt-preserved : goal.loop-attempt-preserved
loop-attempt-preserved g c = (
  one_more_of _ c.loop-attempt._attempt _ c.loop-attempt.self _ c.loop-attempt.invariant.0
      (record {
        buffer = c.args.buf.now;
        error = c.in-Err.error;
        interrupted = search rules;
        call = record { time = c.in_ok-wait.wait; left = search rules; call = search rules };
      }),
  keeps_twice (g.H.Socket.contents c.args.self.now.socket) (g.H.Socket.contents c.loop-attempt.self.socket) _ c.loop-attempt.invariant.1 (search rules),
)

pub returns-clause-waits : goal.returns-clause-waits
returns-clause-waits g c = record {
  now = c.loop-attempt.self;
  interrupted = record { count = c.loop-attempt._attempt; steps = c.loop-attempt.invariant.0 };
  ends = inr (record { all = search rules; error = c.from.result; fails = search rules; kind = search rules; same = search rules });
}
