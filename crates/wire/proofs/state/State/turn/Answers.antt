use Rattle.wire.proofs.AnswerLemmas.{turn_counties}
use Rattle.wire.proofs.state.State.turn.Goals as goal

pub invariant_of-self : goal.invariant_of-self
invariant_of-self g c =
    let same = turn_counties c.self.inside.jobs c.next_turn.result c.next_turn.new.jobs c.next_turn.ensures in
    rw same c.self.invariant
