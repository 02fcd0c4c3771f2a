use Rattle.std.proofs.lemmas.Result.{err_from_is_err_and}
use Rattle.extract.proofs.ExtractLemmas.{joined_outcome}
use Rattle.extract.proofs.extractor.extract_verified_in.Goals as goal

pub returns-in_err-index-clause-outcome : goal.returns-in_err-index-clause-outcome
returns-in_err-index-clause-outcome g c =
    let returned = err_from_is_err_and c.from_residual.result c.from_residual.ensures.1 in
    rw (returned.1, returned.2) (joined_outcome _ _ _ _ _ c.in_err-index.ensures.err)

pub returns-clause-outcome : goal.returns-clause-outcome
returns-clause-outcome g c = c.write_selected.ensures.outcome _ _ c.in_ok-index.ensures.ok
