-- What `trace` writes, and why it is refused.
use Rattle.std.specs.Prelude.{◌≡◌, ◌<◌, ◌⊎◌, ℕ, suc, false, List, [], ◌∷◌, ◌++◌, length, codes, decimal, Option, Some, Result, Ok, Err}
use Rattle.std.specs.List.{slice_get}
use Rattle.std.specs.Option.{unwrap_or}
use Rattle.bpf_insn.specs.Code.{IsCodeOf, IsFirstFault}
use Rattle.bpf_insn.specs.CodeFault as code_fault
use Rattle.bpf_insn.specs.declared.fault.CodeFault.{CodeFault}
use Rattle.bpf_insn.specs.declared.instruction.Insn.{Insn}
use Rattle.bpf_meaning.specs.Cause as cause
use Rattle.bpf_meaning.specs.Run.{IsTraced}
use Rattle.bpf_meaning.specs.declared.outcome.Outcome.{Outcome}
use Rattle.bpf_meaning.specs.declared.outcome.Outcome.TheVariants.{Running, Exit, Stuck}
use Rattle.refusals.specs.Refusal.{RefusalParts}
use Rattle.counted_io.specs.ReaderWriter.{Writer}
use Rattle.counted_io.specs.Writing.{WritesText}
use Rattle.counted_io.specs.declared.writing.WriteFault.{WriteFault}
use Rattle.tl_segments.specs.County.{CountyParts, CountyReaders, IsCountyFault, LoadsCounty}
use Rattle.tl_segments.specs.LoadFault as load_fault
use Rattle.tl_segments.specs.Segment.{SegmentParts}
use Rattle.tl_segments.specs.declared.fault.LoadFault.{LoadFault}
use Rattle.commands.specs.Inputs.{HoldInputs}
use Rattle.commands.specs.declared.trace.Trace.{Trace}
use Rattle.commands.specs.declared.failure.Failure.{Failure}
use Rattle.commands.specs.declared.failure.Failure.TheVariants.{Refusal, NoLine}

-- the text that reports an outcome
abbrev pub outcome_text : Outcome → List ℕ
outcome_text Running = codes "running"
outcome_text (Exit answer score) = codes "exit " ++ decimal answer ++ codes " score " ++ decimal score
outcome_text (Stuck place stuck) = codes "stuck place " ++ decimal place ++ codes " cause " ++ decimal
    (unwrap_or (cause.refusal stuck).number 0)

-- the outcome's text with its end of line
abbrev pub outcome_line : Outcome → List ℕ
outcome_line outcome = outcome_text outcome ++ 10 ∷ []

-- this is the segment on a line of type 1, counted from 1
pub record IsSegmentOfLine (county : CountyParts) (line : ℕ) (segment : SegmentParts) : Type 0 where
  pub place : ℕ
  pub is_place : line ≡ suc place
  pub is_segment : slice_get county.segments place ≡ Some segment

-- type 1 has no such line, counted from 1
abbrev pub HasNoLine : CountyParts → ℕ → Type 0
HasNoLine county line = (line ≡ 0) ⊎ (length county.segments < line)

-- The program has a code, the county is loaded, and on the line's segment the code has this outcome within the limit of steps.
pub record IsOutcomeOn (trace : Trace) (program : List ℕ) (old new : CountyReaders) (outcome : Outcome) : Type 0 where
  pub code : List Insn
  pub is_code : IsCodeOf program code
  pub county : CountyParts
  pub loads : LoadsCounty county old new
  pub segment : SegmentParts
  pub of_line : IsSegmentOfLine county trace.line segment
  pub traced : IsTraced code segment trace.limit outcome

-- The program has a code and the county is loaded, but the line doesn't exist.
pub record IsWithoutLine (trace : Trace) (program : List ℕ) (old new : CountyReaders) : Type 0 where
  pub code : List Insn
  pub is_code : IsCodeOf program code
  pub county : CountyParts
  pub loads : LoadsCounty county old new
  pub no_line : HasNoLine county trace.line

-- why there is no outcome: the first fault of the program's bytes, or of the county's files if the program has a code
pub data IsTraceFault (program : List ℕ) (old new : CountyReaders) (refusal : RefusalParts) : Type 0 where
  of_code : (fault : CodeFault) → IsFirstFault program fault → refusal ≡ code_fault.refusal fault
      → new ≡ old → IsTraceFault program old new refusal
  of_county : (code : List Insn) → IsCodeOf program code → (fault : LoadFault) → IsCountyFault fault old new
      → refusal ≡ load_fault.refusal fault → IsTraceFault program old new refusal

-- how the trace ends: with an outcome, with a refusal, or because the line doesn't exist
abbrev pub IsTraceResult : Trace → List ℕ → CountyReaders → CountyReaders → Result Outcome Failure → Type 0
IsTraceResult trace program old new (Ok outcome) = IsOutcomeOn trace program old new outcome
IsTraceResult trace program old new (Err (Refusal refusal)) = IsTraceFault program old new refusal
IsTraceResult trace program old new (Err (NoLine line)) = (line ≡ trace.line) × IsWithoutLine trace program old new
IsTraceResult trace program old new (Err failure) = ⊥

-- the program and the readers hold the requested program's and county's files
abbrev pub HoldRequested : Trace → (List ℕ → Option (List ℕ)) → List ℕ → CountyReaders → Type 0
HoldRequested trace known program readers = HoldInputs false known trace.program.now trace.«data».now trace.code.now program readers

-- The outcome was written, completely or until the output failed.
pub record Writes (trace : Trace) (known : List ℕ → Option (List ℕ)) (result : Result (Unit {0}) WriteFault)
    (out out' : Writer) : Type 0 where
  pub program : List ℕ
  pub old : CountyReaders
  pub hold : HoldRequested trace known program old
  pub new : CountyReaders
  pub outcome : Outcome
  pub is_outcome : IsOutcomeOn trace program old new outcome
  pub written : WritesText (outcome_line outcome) result out out'

-- The program or the county is refused, and nothing was written.
pub record IsRefused (trace : Trace) (known : List ℕ → Option (List ℕ)) (refusal : RefusalParts) (out out' : Writer) : Type 0 where
  pub program : List ℕ
  pub old : CountyReaders
  pub hold : HoldRequested trace known program old
  pub new : CountyReaders
  pub fault : IsTraceFault program old new refusal
  pub unwritten : out' ≡ out

-- The requested line doesn't exist.
pub record IsMissingLine (trace : Trace) (known : List ℕ → Option (List ℕ)) (line : ℕ) : Type 0 where
  pub is_line : line ≡ trace.line
  pub program : List ℕ
  pub old : CountyReaders
  pub hold : HoldRequested trace known program old
  pub new : CountyReaders
  pub without : IsWithoutLine trace program old new
