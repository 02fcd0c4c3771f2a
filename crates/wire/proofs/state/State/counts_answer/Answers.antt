use Rattle.std.proofs.Common.{ap, inl}
use Rattle.wire.proofs.CountingLemmas.{counts_are}
use Rattle.wire.proofs.state.State.counts_answer.Goals as goal

pub returns-in-Ok : goal.returns-in-Ok
returns-in-Ok g c =
    inl (counts_are c.args.self.now c.self.inside.jobs c.in-Ok.ensures (ap (λ state. state.counters) c.self.view_is) c.progress-progress.ensures.running
    c.progress-progress.ensures.finished (ap (λ state. state.table) c.self.view_is))
