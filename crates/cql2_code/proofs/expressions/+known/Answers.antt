use Rattle.cql2_code.proofs.Refused.{prepends_as}
use Rattle.cql2_code.proofs.Written.{joined}
use Rattle.cql2_code.proofs.expressions.+known.Goals as goal

pub prepend_known_divisor-returns : goal.prepend_known_divisor-returns
prepend_known_divisor-returns g t c =
    prepends_as c.prepend_known.result _
    (λ all front. joined c.words-words.ensures.value c.in_ok-prepend_divisor.ensures c.exits_before-exits.ensures.before front)
    c.prepend_known.ensures
