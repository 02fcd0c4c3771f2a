use Rattle.cql2_code.proofs.Refused.{prepends_as, prepends_refused, second_refused}
use Rattle.cql2_code.proofs.Written.{joined, written_as}
use Rattle.cql2_code.proofs.text_columns.prepend_if_filled.Goals as goal

pub returns : goal.returns
returns g c =
    prepends_as c.prepend_test.result _
    (λ all front. joined c.words-words.ensures.value c.in_ok-prepend.ensures c.exits_before-filled.ensures.before
    (written_as c.byte_test.ensures front))
    c.prepend_test.ensures

pub returns-in_err-prepend : goal.returns-in_err-prepend
returns-in_err-prepend g c =
    prepends_refused c.from_residual.result _ c.from_residual.ensures.1 (second_refused c.in_err-prepend.ensures)
