use Rattle.wire.proofs.FilterLemmas.{of_failure}
use Rattle.wire.proofs.filter.selected_layer.Goals as goal

pub returns-in-Err-clause-err : goal.returns-in-Err-clause-err
returns-in-Err-clause-err g c =
    of_failure _ _ c.in-Err.failure _ c.in-Ok.ensures.cases.1 c.in-Err.ensures.err c.failure_answer.ensures
