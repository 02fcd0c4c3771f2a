use Rattle.std.proofs.Common.{inl, inr, rules}
use Rattle.std.specs.Prelude.{ℕ, List, Result, Ok, Err, IfOk}
use Rattle.clap.specs.Walk.{Text}
use Rattle.counted_io.specs.ReaderWriter.{Writer}
use Rattle.extractd.specs.Outcome.{AnswersToOutput, EndsSo}
use Rattle.extractd.proofs.start.Goals as goal

abbrev ended : {E : Type 0} (words : List Text) (errors errors' : Writer) (result : Result ℕ E)
    → IfOk result (λ status. AnswersToOutput words status errors errors') → IfOk result (λ status. EndsSo status errors errors')
ended words errors errors' (Ok status) is = (words, inr is)
ended words errors errors' (Err fault) is = tt

pub returns-in-Some-Serve-clause-ok : goal.returns-in-Some-Serve-clause-ok
returns-in-Some-Serve-clause-ok g c = (_, inl c.start_server.ensures)

pub returns-clause-ok : goal.returns-clause-ok
returns-clause-ok g c = ended _ _ _ c.run_command.result c.run_command.ensures.ok
