use Rattle.cql2_code.proofs.Refused.{prepends_as}
use Rattle.cql2_code.proofs.Written.{joined}
use Rattle.cql2_code.proofs.expressions.prepend_numbers.Goals as goal

pub returns : goal.returns
returns g c =
    prepends_as c.prepend_known.result _
    (λ all front. joined c.words-words.ensures.value c.in_ok-prepend_both.ensures c.exits_before-exits.ensures.before front)
    c.prepend_known.ensures
