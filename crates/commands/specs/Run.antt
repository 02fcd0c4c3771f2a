-- What `run` writes, and why it is refused.
use Rattle.std.specs.Prelude.{◌≡◌, ◌⊎◌, ℕ, Bool, List, Option, Result, Ok, Err}
use Rattle.refusals.specs.Refusal.{RefusalParts}
use Rattle.counted_io.specs.ReaderWriter.{Writer}
use Rattle.counted_io.specs.declared.writing.WriteFault.{WriteFault}
use Rattle.extract.specs.ExtractFault as extract_fault
use Rattle.extract.specs.Extracting.{HasSafeCode, IsProgramRefusal}
use Rattle.extract.specs.declared.fault.ExtractFault.{ExtractFault}
use Rattle.extract.specs.declared.fault.ExtractFault.TheVariants as extract
use Rattle.layers.specs.Layer.{LayerParts, has_shapes}
use Rattle.layers.specs.LayerParts.{parts_of}
use Rattle.layers.specs.Writing.{IsHeadedOutcome}
use Rattle.named_files.specs.County.{IsFileOfCounty}
use Rattle.tl_segments.specs.County.{CountyReaders}
use Rattle.commands.specs.Inputs.{HoldInputs}
use Rattle.commands.specs.declared.run.Run.{Run}

-- whether the points of shapes are written
abbrev pub wants_shapes : Run → Bool
wants_shapes run = has_shapes (parts_of run.layer)

-- the program and the county's layer are read from a file of this name
abbrev pub IsFileOf : Run → List ℕ → Type 0
IsFileOf run name = (name ≡ run.program.now) ⊎ IsFileOfCounty (wants_shapes run) run.«data».now run.code.now name

-- The effect of writing what a program selects in a county as a layer. The program is refused, and nothing was read or written. Or memory runs out
-- before anything is. Or its code is safe, and the header and the county's layer are written.
abbrev pub IsProgramOutcome : LayerParts → List ℕ → Result ℕ ExtractFault → CountyReaders → CountyReaders → Writer → Writer → Type 0
IsProgramOutcome layer program (Err (extract.Program fault)) old new out out' =
    IsProgramRefusal program fault old.segments new.segments out out' × (new.shapes ≡ old.shapes)
IsProgramOutcome layer program (Err extract.Memory) old new out out' =
    ((new ≡ old) × (out' ≡ out)) ⊎ HasSafeCode program (λ code. IsHeadedOutcome layer code (Err extract.Memory) old new out out')
IsProgramOutcome layer program result old new out out' =
    HasSafeCode program (λ code. IsHeadedOutcome layer code result old new out out')

-- the outcome of the named program in the county, read from files whose bytes agree with what is known of them
pub record IsOutcomeOf (run : Run) (known : List ℕ → Option (List ℕ)) (result : Result ℕ ExtractFault) (out out' : Writer) : Type 0 where
  pub program : List ℕ
  pub old : CountyReaders
  pub hold : HoldInputs (wants_shapes run) known run.program.now run.«data».now run.code.now program old
  pub new : CountyReaders
  pub outcome : IsProgramOutcome (parts_of run.layer) program result old new out out'

-- the layer was written, completely or until the output failed
abbrev pub Writes : Run → (List ℕ → Option (List ℕ)) → Result (Unit {0}) WriteFault → Writer → Writer → Type 0
Writes run known (Ok done) out out' = (count : ℕ) × IsOutcomeOf run known (Ok count) out out'
Writes run known (Err fault) out out' = IsOutcomeOf run known (Err (extract.Write fault)) out out'

-- the program or the county was refused with this refusal
abbrev pub IsRefused : Run → (List ℕ → Option (List ℕ)) → RefusalParts → Writer → Writer → Type 0
IsRefused run known refusal out out' =
    (fault : ExtractFault) × (refusal ≡ extract_fault.refusal fault) × IsOutcomeOf run known (Err fault) out out'
