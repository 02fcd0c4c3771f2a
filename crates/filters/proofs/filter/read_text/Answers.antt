use Rattle.filters.proofs.FilterLemmas.{of_filter_failure}
use Rattle.filters.proofs.filter.read_text.Goals as goal

pub returns-in-Err-clause-err : goal.returns-in-Err-clause-err
returns-in-Err-clause-err c = λ is_text.
    of_filter_failure c.args.text.now c.args.options c.in-Err.fault c.of_filter.result is_text c.in-Err.ensures.reads c.of_filter.ensures
