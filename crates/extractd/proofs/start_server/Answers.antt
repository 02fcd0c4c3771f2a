use Rattle.std.proofs.Common.{◌≡◌, ◌≢◌, ℕ, List, refl}
use Rattle.clap.specs.Walk.{Text}
use Rattle.counted_io.specs.ReaderWriter.{Writer}
use Rattle.commands.specs.Failure.{ReportsMemory}
use Rattle.command_line.specs.Request.{IsServeOf}
use Rattle.command_line.specs.declared.fault.ArgumentsFault.{ArgumentsFault}
use Rattle.command_line.specs.declared.fault.ArgumentsFault.TheVariants.{Memory}
use Rattle.command_line.specs.declared.serve.Serve.{Serve}
use Rattle.extractd.specs.Outcome.{ServesIfRequested, not_requested, out_of_memory, served}
use Rattle.extractd.proofs.start_server.Goals as goal

-- the words request no server, or memory ran out
refused : (words : List Text) (status : ℕ) (errors errors' : Writer) (fault : ArgumentsFault) → (fault ≢ Memory → status ≡ 2)
    → (fault ≡ Memory → status ≡ 4) → (fault ≢ Memory → (serve : Serve) → IsServeOf words serve → ⊥)
    → (fault ≡ Memory → ReportsMemory errors errors') → ServesIfRequested words status errors errors'
refused words status errors errors' Memory two four none reported = out_of_memory (four refl) (reported refl)
refused words status errors errors' fault two four none reported = not_requested (none (λ e. cc)) (two (λ e. cc))

pub returns-in-Ok : goal.returns-in-Ok
returns-in-Ok g c = served c.in-Ok.options c.in-Ok.ensures c.serve.ensures

pub returns-in-Err : goal.returns-in-Err
returns-in-Err g c = refused _ _ _ _ c.in-Err.fault c.status.ensures.usage c.status.ensures.memory c.in-Err.ensures c.report.ensures.memory
