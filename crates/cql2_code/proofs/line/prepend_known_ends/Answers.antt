use Rattle.cql2_code.proofs.Refused.{prepends_as}
use Rattle.cql2_code.proofs.Written.{joined}
use Rattle.cql2_code.proofs.line.prepend_known_ends.Goals as goal

pub returns : goal.returns
returns g c =
    prepends_as c.prepend_known_point-2.result _
    (λ all front. joined c.words-words.ensures.value c.in_ok-prepend_known_point.ensures c.exits_before-exits.ensures.before front)
    c.prepend_known_point-2.ensures
