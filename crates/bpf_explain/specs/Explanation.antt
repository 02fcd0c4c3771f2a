-- The text that explains the verdict on a program.
use Rattle.std.specs.Prelude.{◌≡◌, ℕ, ◌+◌, List, ◌++◌, take, Some, Result, Ok, Err}
use Rattle.bpf_flow.specs.Flow.{IsForward}
use Rattle.bpf_insn.specs.Code.{IsCodeOf, instruction_at, word_count}
use Rattle.bpf_insn.specs.declared.instruction.Insn.{Insn}
use Rattle.bpf_meaning.specs.declared.cause.Cause.{Cause}
use Rattle.bpf_verify.specs.LiftedState.{Reached}
use Rattle.bpf_verify.specs.Annotation.{Annotation, IsLeastUpTo}
use Rattle.bpf_verify.specs.Transfer.{transfer}
use Rattle.bpf_verify.specs.Visit.{visits_from}
use Rattle.bpf_verify.specs.declared.fault.VerifyFault.TheVariants.{Refused}
use Rattle.bpf_verify.specs.declared.abstract_state.AbstractState.{AbstractState}
use Rattle.bpf_program.specs.Program.{IsProgramFault}
use Rattle.bpf_program.specs.declared.program.ProgramFault.{ProgramFault}
use Rattle.bpf_program.specs.declared.program.ProgramFault.TheVariants.{Code, Flow, Verify}
use Rattle.listing_excerpt.specs.Listed.{ListsCodeFault, ListsFlowFault}
use Rattle.listing_lines.specs.LinesFault as lines_fault
use Rattle.listing_lines.specs.SourceLines.{SourceLine, lines_in, lines_or_none}
use Rattle.refusals.specs.Refusal.{RefusalParts, memory}
use Rattle.bpf_explain.specs.declared.explanation.ExplainFault.{ExplainFault}
use Rattle.bpf_explain.specs.declared.explanation.ExplainFault.TheVariants as explain
use Rattle.bpf_explain.specs.declared.explanation.ExplainFault.TheVariants.{Lines}
use Rattle.bpf_explain.specs.Listing.{accepted_text, listing, refusal_line}
use Rattle.bpf_verify.specs.Annotation.{HasGoodAnnotation, IsRefusedAt}

-- A text explains that a code is accepted: it lists the visits of the least annotation that is good to the code's end.
pub record ExplainsAcceptance (code : List Insn) (lines : List SourceLine) (text : List ℕ) : Type 0 where
  pub annotation : Annotation
  pub is_least : IsLeastUpTo code (word_count code) annotation
  pub is : text ≡ accepted_text (listing lines (visits_from annotation 0 code))

-- A text explains that a code is refused at a place with a cause: it lists the visits of the least annotation that is good up to and including that
-- place. It then says which check of the instruction there fails, given what is known before it.
pub record ExplainsRefusal (code : List Insn) (lines : List SourceLine) (place : ℕ) (cause : Cause) (text : List ℕ) : Type 0 where
  pub annotation : Annotation
  pub is_least : IsLeastUpTo code place annotation
  pub index : ℕ
  pub at : place ≡ word_count (take index code)
  pub insn : Insn
  pub insn_is : instruction_at code place ≡ Some insn
  pub known : AbstractState
  pub state : annotation place ≡ Reached known
  pub fails : transfer (annotation place) insn ≡ Err cause
  pub is : text ≡ (listing lines (visits_from annotation 0 (take (index + 1) code))).text ++ refusal_line known cause insn

-- a text explains the verdict of the verifier on a code
abbrev pub IsExplained : List Insn → List SourceLine → List ℕ → Result (Unit {0}) ProgramFault → Type 0
IsExplained code lines text (Ok accepted) = HasGoodAnnotation code × ExplainsAcceptance code lines text
IsExplained code lines text (Err (Verify (Refused place cause))) = IsRefusedAt code place cause × ExplainsRefusal code lines place cause text
IsExplained code lines text (Err fault) = ⊥

-- a text explains the verdict on a program whose bytes and jumps have no fault, with a file of source lines
pub record ExplainsCode (program places text : List ℕ) (verdict : Result (Unit {0}) ProgramFault) : Type 0 where
  pub code : List Insn
  pub is_code : IsCodeOf program code
  pub forward : IsForward code
  pub lines : List SourceLine
  pub are_lines : lines_in places ≡ Ok lines
  pub explained : IsExplained code lines text verdict

-- the first fault of a program's bytes, or if they have none, of its jumps and its end
abbrev pub IsEarlyFault : List ℕ → ProgramFault → Type 0
IsEarlyFault program (Verify fault) = ⊥
IsEarlyFault program fault = IsProgramFault program fault

-- a text shows the words of a program around such a fault
abbrev pub ListsFault : List ℕ → List SourceLine → ProgramFault → List ℕ → Type 0
ListsFault program lines (Code fault) text = ListsCodeFault program lines fault text
ListsFault program lines (Flow fault) text = ListsFlowFault program lines fault text
ListsFault program lines fault text = ⊥

-- A text explains the verdict on a program, with a file of source lines. With a fault of the program's bytes or jumps, the lines of a faulty file are
-- left out. A failed allocation is not a verdict.
abbrev pub Explains : List ℕ → List ℕ → List ℕ → Result (Unit {0}) ProgramFault → Type 0
Explains program places text (Err (Code fault)) =
    IsEarlyFault program (Code fault) × ListsFault program (lines_or_none (lines_in places)) (Code fault) text
Explains program places text (Err (Flow fault)) =
    IsEarlyFault program (Flow fault) × ListsFault program (lines_or_none (lines_in places)) (Flow fault) text
Explains program places text verdict = ExplainsCode program places text verdict

-- why there is no explanation
abbrev pub IsExplainFault : List ℕ → ExplainFault → Type 0
IsExplainFault places (Lines fault) = lines_in places ≡ Err fault
IsExplainFault places explain.Memory = Unit {0}

abbrev pub refusal : ExplainFault → RefusalParts
refusal (Lines fault) = lines_fault.refusal fault
refusal explain.Memory = memory
