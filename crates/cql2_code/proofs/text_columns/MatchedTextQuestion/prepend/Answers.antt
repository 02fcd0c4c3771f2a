use Rattle.cql2_code.proofs.Refused.{prepends_as}
use Rattle.cql2_code.proofs.Written.{asked_written}
use Rattle.cql2_code.proofs.text_columns.MatchedTextQuestion.prepend.Goals as goal

pub returns : goal.returns
returns g c =
    prepends_as c.prepend_pattern.result _
    (λ all written. asked_written c.args.self.now.asked c.if_asked.ensures.falls c.if_asked.ensures.skip written)
    c.prepend_pattern.ensures
