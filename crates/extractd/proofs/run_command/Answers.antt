use Rattle.std.proofs.Common.{◌≡◌, ap, subst}
use Rattle.std.specs.Prelude.{ℕ, List}
use Rattle.clap.specs.Walk.{Text}
use Rattle.counted_io.specs.ReaderWriter.{Writer}
use Rattle.extractd.specs.Outcome.{Answers, AnswersToOutput}
use Rattle.extractd.proofs.run_command.Goals.{in-None, in-Some}
use Rattle.extractd.proofs.run_command.Goals as goal

to_output : (words : List Text) (status : ℕ) (out out' errors errors' : Writer) → out.counts ≡ record { failed = 0; empty = 0; flushes = 0 }
    → Answers words status out out' errors errors' → AnswersToOutput words status errors errors'
to_output words status out out' errors errors' unused answers = (
  out.held,
  out',
  subst (λ counts. Answers words status (record { held = out.held; counts = counts }) out' errors errors') unused answers,
)

pub returns-clause-ok : goal.returns-clause-ok
returns-clause-ok g c = elim c.match-start.branch [
  | in-Some w ↦ rw (w.result-is, w.errors-is) (to_output _ _ _ _ _ _ (ap (λ counting. counting.counts) w.new.ensures) w.command_to.ensures.answers)
  | in-None w ↦ rw (w.result-is, w.errors-is)
      (to_output _ _ _ _ _ _ (ap (λ counting. counting.counts) w.new-in-None.ensures) w.command_to-in-None.ensures.answers)
]
