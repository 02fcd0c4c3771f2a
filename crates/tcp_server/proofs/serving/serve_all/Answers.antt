use Rattle.tcp_server.proofs.AcceptorLemmas.{fewer_left}
use Rattle.tcp_server.proofs.RepeatsLemmas.{one_more}
use Rattle.tcp_server.specs.Rounds.{IsRound}
use Rattle.tcp_server.proofs.serving.serve_all.Goals as goal

pub loop-error-smaller : goal.loop-error-smaller
loop-error-smaller g c =
    fewer_left g.L.Listener.accepts c.in_default.ensures.round.connection _ _ c.in_default.ensures.round.accepts

pub loop-error-preserved : goal.loop-error-preserved
loop-error-preserved g c = one_more (IsRound _) _ _ _ c.loop-error.invariant c.in_default.ensures.round
