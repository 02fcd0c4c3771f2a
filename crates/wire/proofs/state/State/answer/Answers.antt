use Rattle.std.proofs.Common.{refl}
use Rattle.wire.proofs.AnswerLemmas.{writes_such}
use Rattle.wire.proofs.state.State.answer.Goals as goal
use Rattle.wire.specs.Answer.{disallowed, status_reply}

pub returns-in-Refuses : goal.returns-in-Refuses
returns-in-Refuses g c =
    writes_such _ (status_reply c.in-Refuses.status) _ _ _ (rw c.in-Refuses.is (refl, refl)) c.write.ensures

pub returns-in-Disallows : goal.returns-in-Disallows
returns-in-Disallows g c =
    writes_such _ (disallowed c.in-Disallows.route) _ _ _ (rw c.in-Disallows.is (refl, refl)) c.write-in-Disallows.ensures
