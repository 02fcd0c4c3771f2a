use Rattle.cql2_json.specs.declared.translation.TheConstants.{MAX_LENGTH}
use Rattle.cql2_json.proofs.FaultLemmas.{only-text}
use Rattle.cql2_json.proofs.translation.translate.Goals as goal

pub returns-clause-only : goal.returns-clause-only
returns-clause-only g c =
    λ short utf8 value text is has few. only-text c.args.json.now text MAX_LENGTH value c.text_up_to.result
    (record { short = short; utf8 = utf8; is = is; has = has; few = few }) c.text_up_to.ensures.value
