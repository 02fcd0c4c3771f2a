use Rattle.std.proofs.Common.{◌≡◌, ◌≢◌, ◌⊎◌, ℕ, ap, inl, inr, subst, sym, ◌∙◌}
use Rattle.counted_io.specs.ReaderWriter.{Writer}
use Rattle.commands.specs.Failure.{ReportsMemory}
use Rattle.command_line.specs.Fault.{ReportsNotUtf8}
use Rattle.command_line.specs.declared.fault.ArgumentsFault.{ArgumentsFault}
use Rattle.command_line.specs.declared.fault.ArgumentsFault.TheVariants.{Memory, NotUtf8}
use Rattle.extractd.specs.Outcome.{EndsProcess, EndsSo, RefusesArguments, of_memory, of_text}
use Rattle.extractd.proofs.run.Goals as goal

-- nothing was written to standard error before
process_ends : (status status' : ℕ) (errors errors' : Writer) → status' ≡ status → errors.counts ≡ record { failed = 0; empty = 0; flushes = 0 }
    → EndsSo status errors errors' ⊎ RefusesArguments status errors errors' → EndsProcess status'
process_ends status status' errors errors' same unused ends = (
  errors.held,
  errors',
  subst (λ counts. let first : Writer = record { held = errors.held; counts = counts } in
      EndsSo status' first errors' ⊎ RefusesArguments status' first errors') unused
      (subst (λ (status : ℕ). EndsSo status errors errors' ⊎ RefusesArguments status errors errors') (sym same) ends),
)

-- the arguments can't be read
refused : (fault : ArgumentsFault) (status : ℕ) (errors errors' : Writer) → (fault ≡ Memory) ⊎ (fault ≡ NotUtf8) → (fault ≢ Memory → status ≡ 2)
    → (fault ≡ Memory → status ≡ 4) → (fault ≡ Memory → ReportsMemory errors errors') → (fault ≡ NotUtf8 → ReportsNotUtf8 errors errors')
    → RefusesArguments status errors errors'
refused fault status errors errors' (inl is) two four memory text = of_memory (four is) (memory is)
refused fault status errors errors' (inr is) two four memory text =
    of_text (two (λ same. let no : NotUtf8 ≡ Memory = sym is ∙ same in cc)) (text is)

pub returns-in-Ok : goal.returns-in-Ok
returns-in-Ok c =
    process_ends c.in-Ok.status _ _ _ c.from.ensures (ap (λ counting. counting.counts) c.new-errors.ensures) (inl c.in-Ok.ensures.ok)

pub returns-in-Err : goal.returns-in-Err
returns-in-Err c =
    process_ends c.status.result _ _ _ c.from-in-Err.ensures
    (ap (λ counting. counting.counts) (c.in-Err.ensures.err.1 ∙ c.new-errors.ensures))
    (inr (refused c.in-Err.fault c.status.result _ _ c.in-Err.ensures.err.0 c.status.ensures.usage c.status.ensures.memory
    c.report.ensures.memory c.report.ensures.not_utf8))
