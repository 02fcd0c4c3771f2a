use Rattle.cql2_code.proofs.Refused.{prepends_as}
use Rattle.cql2_code.proofs.Written.{asked_written, joined}
use Rattle.cql2_code.proofs.shapes.prepend_starts_in.Goals as goal

pub returns : goal.returns
returns g c =
    prepends_as c.prepend_known_line.result _
    (λ all front. joined c.words-words.ensures.value
    (asked_written c.args.asked c.if_asked.ensures.falls c.if_asked.ensures.skip c.in_ok-prepend_start_meets.ensures) c.exits_before-exits.ensures.before front)
    c.prepend_known_line.ensures
