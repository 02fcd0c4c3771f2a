-- How `run` is carried out, by its outcome.
use Rattle.std.proofs.Common.{◌≡◌, ℕ, List, Option, Result, Ok, Err, inl, inr, refl, sym, subst, ◌∙◌}
use Rattle.std.specs.Prelude.{⊤}
use Rattle.bpf_insn.specs.declared.instruction.Insn.{Insn}
use Rattle.bpf_meaning.specs.Extract.{TextFormat}
use Rattle.bpf_program.specs.Program.{IsSafeProgram}
use Rattle.extract.specs.ExtractFault as extract_fault
use Rattle.extract.specs.Extracting.{IsOutcomeOfCodeIn}
use Rattle.extract.specs.declared.fault.ExtractFault.{ExtractFault}
use Rattle.extract.specs.declared.fault.ExtractFault.TheVariants as extract
use Rattle.bpf_program.specs.ProgramFault as program_fault
use Rattle.bpf_program.specs.declared.program.ProgramFault.TheVariants as program
use Rattle.refusals.specs.Refusal.{RefusalParts}
use Rattle.counted_io.specs.ReaderWriter.{Writer}
use Rattle.layers.specs.Layer.{LayerParts, layer_format}
use Rattle.layers.specs.LayerParts.{parts_of}
use Rattle.layers.specs.Writing.{IsHeadedOutcome, IsLayerOutcome, after_header, in_header}
use Rattle.tl_segments.specs.County.{CountyReaders, SegmentReaders}
use Rattle.tl_segments.specs.LoadFault as load_fault
use Rattle.tl_segments.specs.Shape.{shape_parts}
use Rattle.commands.specs.Command.{CarriesOut}
use Rattle.commands.specs.Failure.{of_extract}
use Rattle.commands.specs.Inputs.{HoldInputs, HoldTooLong}
use Rattle.commands.specs.Run.{IsOutcomeOf, IsProgramOutcome, IsRefused, wants_shapes}
use Rattle.commands.specs.declared.request.Request.TheVariants as request
use Rattle.commands.specs.declared.run.Run.{Run}
use Rattle.named_files.specs.County.{ClosesCounty}
use Rattle.named_files.specs.Files.{Closes, Disk, IsUnfailed, OpenResults}
use Rattle.commands.proofs.CarriedLemmas.{refused_carried}
use Rattle.commands.proofs.ClassLemmas.{program_status}
use Rattle.commands.proofs.LayerLemmas.{ClosesAs, IsOfLoad, headed_closes, headed_unflushed, shapes_result, unwritten_flushes}
use Rattle.commands.proofs.ReadLemmas.{county_from, sound, unread_county, unread_parts}

-- a program that is too long is refused before the county is read
pub run_too_long : (run : Run) (known : List ℕ → Option (List ℕ)) (out : Writer) (refusal : RefusalParts)
    → HoldTooLong (wants_shapes run) run.program.now run.«data».now run.code.now known refusal → IsRefused run known refusal out out
run_too_long run known out refusal is = (
  extract.Program (program.Code is.fault),
  is.is_refusal,
  record {
    program = is.long.program;
    old = is.readers;
    hold = record { is_program = is.long.is_program; county = is.hold };
    new = is.readers;
    outcome = (
      record { first = (is.long.first, is.long.has_number); has_number = λ e. cc; unread = refl; unwritten = refl },
      refl,
    );
  },
)

-- an accepted program is not refused after that

abbrev NotProgram : Result ℕ ExtractFault → Type 0
NotProgram (Err (extract.Program fault)) = ⊥
NotProgram result = ⊤

load_no_program : (result : Result ℕ ExtractFault) → IsOfLoad result → NotProgram result
load_no_program (Ok count) is = tt
load_no_program (Err (extract.Program fault)) is = is
load_no_program (Err (extract.Load fault)) is = tt
load_no_program (Err (extract.Write fault)) is = tt
load_no_program (Err extract.Memory) is = tt

code_no_program : (text_of : TextFormat) (code : List Insn) (result : Result ℕ ExtractFault) (old new : SegmentReaders) (out out' : Writer)
    → IsOutcomeOfCodeIn text_of code result old new out out' → NotProgram result
code_no_program text_of code (Ok count) old new out out' is = tt
code_no_program text_of code (Err (extract.Program fault)) old new out out' is = is
code_no_program text_of code (Err (extract.Load fault)) old new out out' is = tt
code_no_program text_of code (Err (extract.Write fault)) old new out out' is = tt
code_no_program text_of code (Err extract.Memory) old new out out' is = tt

layer_no_program : (layer : LayerParts) (code : List Insn) (result : Result ℕ ExtractFault) (old new : CountyReaders) (out out' : Writer)
    → IsLayerOutcome layer code result old new out out' → NotProgram result
layer_no_program layer code result old new out out' (inl is) = load_no_program result (shapes_result old new out out' is)
layer_no_program layer code result old new out out' (inr is) =
    code_no_program (layer_format layer (shape_parts is.rt2)) code result old.segments new.segments out out' is.outcome

headed_no_program : (layer : LayerParts) (code : List Insn) (result : Result ℕ ExtractFault) (old new : CountyReaders) (out out' : Writer)
    → IsHeadedOutcome layer code result old new out out' → NotProgram result
headed_no_program layer code result old new out out' (in_header fault is_result written unread) = subst NotProgram (sym is_result) tt
headed_no_program layer code result old new out out' (after_header headed header is) =
    layer_no_program layer code result old new headed out' is

module _ (layer : LayerParts) (program : List ℕ) (code : List Insn) where
  pub accepted_outcome : (result : Result ℕ ExtractFault) (old new : CountyReaders) (out out' : Writer) → IsSafeProgram program code
      → IsHeadedOutcome layer code result old new out out' → IsProgramOutcome layer program result old new out out'
  accepted_outcome (Ok count) old new out out' safe is = (code, safe, is)
  accepted_outcome (Err (extract.Program fault)) old new out out' safe is =
      absurd (headed_no_program layer code (Err (extract.Program fault)) old new out out' is)
  accepted_outcome (Err (extract.Load fault)) old new out out' safe is = (code, safe, is)
  accepted_outcome (Err (extract.Write fault)) old new out out' safe is = (code, safe, is)
  accepted_outcome (Err extract.Memory) old new out out' safe is = inr (code, safe, is)

module _ (run : Run) (disk between disk' : Disk) (out out' : Writer) (program bytes : List ℕ) (old new : CountyReaders)
    (hold : HoldInputs (wants_shapes run) disk.known run.program.now run.«data».now run.code.now program old)
    (before : IsUnfailed disk between) (closes : Closes (ClosesCounty run.«data».now run.code.now new) between disk') (same : bytes ≡ program) where
  outcome_of : (result : Result ℕ ExtractFault) → IsProgramOutcome (parts_of run.layer) bytes result old new out out'
      → IsOutcomeOf run disk.known result out out'
  outcome_of result is = record {
    program = program;
    old = old;
    hold = hold;
    new = new;
    outcome = subst (λ (bytes : List ℕ). IsProgramOutcome (parts_of run.layer) bytes result old new out out') same is;
  }

  closed : ClosesCounty run.«data».now run.code.now new disk.failed_reads disk'.failed_reads
  closed = county_from before.reads closes.reads

  program_closes : (result : Result ℕ ExtractFault) → IsProgramOutcome (parts_of run.layer) bytes result old new out out'
      → ClosesAs run.«data».now run.code.now result disk.failed_reads disk'.failed_reads
  program_closes (Ok count) is = headed_closes hold.county closed (parts_of run.layer) is.0 (Ok count) is.2
  program_closes (Err (extract.Program fault)) is = sound (program_status fault) (unread_parts hold.county closed is.0.unread is.1)
  program_closes (Err (extract.Load fault)) is =
      headed_closes hold.county closed (parts_of run.layer) is.0 (Err (extract.Load fault)) is.2
  program_closes (Err (extract.Write fault)) is = tt
  program_closes (Err extract.Memory) (inl is) =
      sound (λ three. let no : ⊥ = cc three in no) (unread_county hold.county closed is.0)
  program_closes (Err extract.Memory) (inr is) =
      headed_closes hold.county closed (parts_of run.layer) is.0 (Err extract.Memory) is.2

  program_unflushed : (result : Result ℕ ExtractFault) → IsProgramOutcome (parts_of run.layer) bytes result old new out out'
      → out'.counts.flushes ≡ out.counts.flushes
  program_unflushed (Ok count) is = headed_unflushed (parts_of run.layer) is.0 (Ok count) old new out out' is.2
  program_unflushed (Err (extract.Program fault)) is = unwritten_flushes is.0.unwritten
  program_unflushed (Err (extract.Load fault)) is = headed_unflushed (parts_of run.layer) is.0 (Err (extract.Load fault)) old new out out' is.2
  program_unflushed (Err (extract.Write fault)) is = headed_unflushed (parts_of run.layer) is.0 (Err (extract.Write fault)) old new out out' is.2
  program_unflushed (Err extract.Memory) (inl is) = unwritten_flushes is.1
  program_unflushed (Err extract.Memory) (inr is) = headed_unflushed (parts_of run.layer) is.0 (Err extract.Memory) old new out out' is.2

  pub run_stopped : {R : Type 0} {opens : OpenResults R} (fault : ExtractFault)
      → IsProgramOutcome (parts_of run.layer) bytes (Err fault) old new out out'
      → CarriesOut opens (request.Run run) (Err (of_extract fault)) disk disk' out out'
  run_stopped (extract.Program fault) is =
      refused_carried (program_fault.refusal fault) (extract.Program fault, refl, outcome_of (Err (extract.Program fault)) is)
      (closes.opens ∙ before.opens) (program_closes (Err (extract.Program fault)) is) (program_unflushed (Err (extract.Program fault)) is)
  run_stopped (extract.Load fault) is =
      refused_carried (load_fault.refusal fault) (extract.Load fault, refl, outcome_of (Err (extract.Load fault)) is)
      (closes.opens ∙ before.opens) (program_closes (Err (extract.Load fault)) is) (program_unflushed (Err (extract.Load fault)) is)
  run_stopped (extract.Write fault) is = record {
    outcome = outcome_of (Err (extract.Write fault)) is;
    names = tt;
    counts = λ other. absurd (other refl);
    unflushed = program_unflushed (Err (extract.Write fault)) is;
  }
  run_stopped extract.Memory is =
      refused_carried (extract_fault.refusal extract.Memory) (extract.Memory, refl, outcome_of (Err extract.Memory) is)
      (closes.opens ∙ before.opens) (program_closes (Err extract.Memory) is) (program_unflushed (Err extract.Memory) is)
