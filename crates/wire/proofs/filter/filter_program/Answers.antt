use Rattle.std.proofs.Common.{inl, refl}
use Rattle.wire.specs.Answer.{refused}
use Rattle.wire.proofs.FilterLemmas.{of_failure}
use Rattle.wire.proofs.filter.filter_program.Goals as goal

pub returns-in_default-clause-err : goal.returns-in_default-clause-err
returns-in_default-clause-err g c =
    refused c.in-Ok.ensures.valid c.in-Ok.options c.in-Ok.ensures.options (inl (c.in_default.ensures.cases.0, refl))

pub returns-in-Err-program-clause-err : goal.returns-in-Err-program-clause-err
returns-in-Err-program-clause-err g c =
    refused c.in-Ok.ensures.valid c.in-Ok.options c.in-Ok.ensures.options
    (of_failure _ _ c.in-Err-program.failure _ c.in-Ok-from_utf8.ensures.cases.1 c.in-Err-program.ensures.err c.failure_answer.ensures)
