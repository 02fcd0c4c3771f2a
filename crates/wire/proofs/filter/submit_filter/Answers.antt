use Rattle.std.proofs.Common.{inr, refl}
use Rattle.wire.specs.Reply.{reply_of}
use Rattle.wire.proofs.AnswerLemmas.{writes_such}
use Rattle.wire.proofs.filter.submit_filter.Goals as goal

pub returns-in-Err : goal.returns-in-Err
returns-in-Err g c =
    let refused = rw c.as_bytes.ensures.value at c.in-Err.ensures.err in
    writes_such _ (reply_of c.in-Err.answer) _ _ _ (inr (refused, refl)) c.write.ensures
