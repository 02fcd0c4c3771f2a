use Rattle.cql2_text.proofs.operand.text.Goals as goal
use Rattle.std.proofs.Common.{◌≡◌}

pub returns-in-Ok-clause-reads : goal.returns-in-Ok-clause-reads
returns-in-Ok-clause-reads g c =
    λ rest text is.
    let same : is.spelling ≡ c.in_ok-spelling.spelling = cc (is.spelled, c.in_ok-spelling.ensures) in
    let rest_same : c.in_ok-spelling.rest.now ≡ rest = cc (is.spelled, c.in_ok-spelling.ensures) in
    (rest_same, c.in-Ok.ensures.reads text.bytes.items (rw same at is.compared))

pub returns-in-Err-clause-reads : goal.returns-in-Err-clause-reads
returns-in-Err-clause-reads g c =
    λ rest text is.
    let same : is.spelling ≡ c.in_ok-spelling.spelling = cc (is.spelled, c.in_ok-spelling.ensures) in
    c.in_text.ensures.memory (c.in-Err.ensures.reads text.bytes.items (rw same at is.compared))
