-- The text that shows why a program is refused before it is verified.
use Rattle.std.specs.Prelude.{◌≡◌, ℕ, List, [], Option}
use Rattle.bpf_flow.specs.declared.fault.FlowFault.{FlowFault}
use Rattle.bpf_insn.specs.Word.{word_of}
use Rattle.bpf_insn.specs.declared.fault.CodeFault.{CodeFault}
use Rattle.bpf_insn.specs.declared.fault.CodeFault.TheVariants.{InWord}
use Rattle.bpf_insn.specs.declared.instruction.Insn.{Insn}
use Rattle.listing_lines.specs.SourceLines.{SourceLine}
use Rattle.listing_excerpt.specs.Excerpt.{IsExcerpt}
use Rattle.listing_excerpt.specs.Reading.{Begins, from_place}
use Rattle.listing_excerpt.specs.Reason.{flow_reason, place_of, word_reason}

-- the words around the one with a fault; nothing for a fault of the program's length
abbrev pub ListsCodeFault : List ℕ → List SourceLine → CodeFault → List ℕ → Type 0
ListsCodeFault program lines (InWord place fault) text = IsExcerpt program lines place (word_reason fault (word_of (from_place program place))) text
ListsCodeFault program lines fault text = text ≡ []

-- the words around the jump, or around the last instruction
pub record ListsFlowFault (program : List ℕ) (lines : List SourceLine) (fault : FlowFault) (text : List ℕ) : Type 0 where
  pub insn : Option Insn
  pub begins : Begins (from_place program (place_of fault)) insn
  pub excerpt : IsExcerpt program lines (place_of fault) (flow_reason fault insn) text
