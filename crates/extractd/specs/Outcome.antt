-- What the program does for its exit status.
use Rattle.std.specs.Prelude.{◌≡◌, ◌≢◌, ◌≤◌, ◌⊎◌, ℕ, List, Option}
use Rattle.clap.specs.Walk.{Text}
use Rattle.counted_io.specs.ReaderWriter.{Writer}
use Rattle.commands.specs.Command.{IsDone, IsOutOfMemory, IsRefusal, IsUnusable, ReportsMissingLine}
use Rattle.commands.specs.Failure.{ReportsMemory}
use Rattle.commands.specs.declared.request.Request.{Request}
use Rattle.named_files.specs.Files.{Disk, KeepsCounts, unknown_opens}
use Rattle.command_line.specs.Fault.{ReportsNotUtf8}
use Rattle.command_line.specs.Request.{HasNoRequest, IsRequestOf, IsServeOf}
use Rattle.command_line.specs.declared.serve.Serve.{Serve}
use Rattle.extractd.specs.Serving.{EndsServer}

-- What the words request was carried out over some files, and ended with this status. Nothing is known of the results of the system's opens.
pub record Answers (words : List Text) (status : ℕ) (out out' errors errors' : Writer) : Type 0 where
  pub files : Disk
  pub files' : Disk
  pub at_most : status ≤ 4
  pub done : status ≡ 0 → (request : Request) × IsRequestOf words request × IsDone request files.known out out'
  pub refused : status ≡ 1 → (request : Request) × IsRequestOf words request × IsRefusal request files.known out out' errors errors'
  pub usage : status ≡ 2 → HasNoRequest words
      ⊎ ((request : Request) × IsRequestOf words request × ReportsMissingLine request files.known errors errors')
  pub unusable : status ≡ 3 → (request : Request) × IsRequestOf words request
      × IsUnusable unknown_opens request files files' out out' errors errors'
  pub memory : status ≡ 4 → ((out' ≡ out) × ReportsMemory errors errors')
      ⊎ ((request : Request) × IsRequestOf words request × IsOutOfMemory request files.known out out' errors errors')
  pub opens : status ≢ 3 → files'.failed_opens ≡ files.failed_opens
  pub reads : status ≢ 3 → KeepsCounts files.failed_reads files'.failed_reads

-- a writer that was never called; it holds this, if that is known
abbrev pub unused : Option (List ℕ) → Writer
unused held = record { held = held; counts = record { failed = 0; empty = 0; flushes = 0 } }

-- the same, to an output of the program's own
abbrev pub AnswersToOutput : List Text → ℕ → Writer → Writer → Type 0
AnswersToOutput words status errors errors' =
    (held : Option (List ℕ)) × (out' : Writer) × Answers words status (unused held) out' errors errors'

-- How the words start a server. They request one, which ended with this status. Or they request none, or memory ran out, and none was started.
pub data ServesIfRequested (words : List Text) (status : ℕ) (errors errors' : Writer) : Type 0 where
  served : (serve : Serve) → IsServeOf words serve → EndsServer status errors errors' → ServesIfRequested words status errors errors'
  not_requested : ((serve : Serve) → IsServeOf words serve → ⊥) → status ≡ 2 → ServesIfRequested words status errors errors'
  out_of_memory : status ≡ 4 → ReportsMemory errors errors' → ServesIfRequested words status errors errors'

-- for some words, what they request was carried out, or a server was started if they request one
abbrev pub EndsSo : ℕ → Writer → Writer → Type 0
EndsSo status errors errors' = (words : List Text) × (ServesIfRequested words status errors errors' ⊎ AnswersToOutput words status errors errors')

-- The arguments can't be read: one isn't UTF-8, or memory ran out. This was reported.
pub data RefusesArguments (status : ℕ) (errors errors' : Writer) : Type 0 where
  of_text : status ≡ 2 → ReportsNotUtf8 errors errors' → RefusesArguments status errors errors'
  of_memory : status ≡ 4 → ReportsMemory errors errors' → RefusesArguments status errors errors'

-- the process ends with this status, after its reports to a standard error that was never called before
abbrev pub EndsProcess : ℕ → Type 0
EndsProcess status = (held : Option (List ℕ)) × (errors' : Writer)
    × (EndsSo status (unused held) errors' ⊎ RefusesArguments status (unused held) errors')
