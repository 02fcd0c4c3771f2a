use Rattle.std.proofs.lemmas.Result.{err_from_is_err_and}
use Rattle.bpf_meaning.specs.Extract.{row_of}
use Rattle.extract.proofs.ExtractLemmas.{joined_outcome, never_program, program_outcome}
use Rattle.extract.proofs.extractor.extract.Goals as goal

pub returns-in_err-index-clause-outcome : goal.returns-in_err-index-clause-outcome
returns-in_err-index-clause-outcome g c =
    let returned = err_from_is_err_and c.from_residual-in_err-index.result c.from_residual-in_err-index.ensures.1 in
    program_outcome row_of c.from_residual-in_err-index.result _ _ _ _ c.in_ok-verified.ensures.ok
    (rw (returned.1, returned.2) (joined_outcome row_of _ _ _ _ c.in_err-index.ensures.err))

pub returns-clause-outcome : goal.returns-clause-outcome
returns-clause-outcome g c =
    program_outcome row_of c.write_selected.result _ _ _ _ c.in_ok-verified.ensures.ok
    (c.write_selected.ensures.outcome _ _ c.in_ok-index.ensures.ok)

pub returns-clause-untouched : goal.returns-clause-untouched
returns-clause-untouched g c = λ fault given.
    absurd (never_program row_of _ c.write_selected.result _ _ _ _ fault (c.write_selected.ensures.outcome _ _ c.in_ok-index.ensures.ok) given)
