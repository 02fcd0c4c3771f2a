-- What the words of an instruction say.
use Rattle.std.specs.Prelude.{◌≡◌, ℕ, ◌-◌, ◌*◌, ◌/◌, ◌≤◌, MatchBool, ℤ, Bool, false, List, [], ◌∷◌, ◌++◌, length, drop, ◌⊎◌, Option, Some}
use Rattle.bpf_insn.specs.Form.{spelling, form_opcode, is_register, source_field, source_immediate}
use Rattle.bpf_insn.specs.Word.{first_words}
use Rattle.bpf_insn.specs.Row.{Fits, IsAllowed}
use Rattle.bpf_insn.specs.Opcode.{row, offset_use, immediate_use}
use Rattle.bpf_insn.specs.Fault.{first_fault}
use Rattle.bpf_insn.specs.declared.fault.WordFault.{WordFault}
use Rattle.bpf_insn.specs.declared.opcode_form.OpcodeForm.{OpcodeForm}
use Rattle.bpf_insn.specs.declared.word.Word.{Word}
use Rattle.bpf_insn.specs.declared.instruction.Insn.{Insn}
use Rattle.bpf_insn.specs.declared.instruction.Operation.{Operation}
use Rattle.bpf_insn.specs.declared.instruction.Source.{Source}
use Rattle.bpf_insn.specs.declared.instruction.Width.TheVariants.{Bits32}

-- an instruction is encoded in a word, or in it and the next one
abbrev pub Begins : Insn → Word → Option Word → Type 0
Begins insn first next =
    (spelling insn ≡ first ∷ []) ⊎ ((second : Word) × (next ≡ Some second) × (spelling insn ≡ first ∷ second ∷ []))

-- a word of this form, whose fields fit
pub record HasForm (form : OpcodeForm) (word : Word) : Type 0 where
  pub opcode : form_opcode form ≡ word.opcode
  pub fits : Fits (row form) word

-- the second operand of a word, which may be a register
abbrev pub IsSource : Bool → Word → Source → Type 0
IsSource from_register word source =
    (from_register ≡ is_register source) × (word.source ≡ source_field source) × (word.immediate ≡ source_immediate source)

-- the fields of the second operand
pub record HasOperand (from_register : Bool) (word : Word) : Type 0 where
  pub source : MatchBool from_register (word.source ≤ 10) (word.source ≡ 0)
  pub immediate : IsAllowed (immediate_use from_register) word.immediate

-- an offset of an operation: 0 or 1 for division and its remainder, otherwise 0
abbrev pub HasOffset : Operation → ℤ → Type 0
HasOffset operation offset = IsAllowed (offset_use operation Bits32 false) offset

-- an instruction begins with the word at a place
abbrev pub BeginsAt : List ℕ → ℕ → Insn → Type 0
BeginsAt bytes place insn =
    (rest : List Word) × (first_words (length bytes / 8 - place) (drop (place * 8) bytes) ≡ spelling insn ++ rest)

-- no instruction begins there, and this is why
abbrev pub IsFaultAt : List ℕ → ℕ → WordFault → Type 0
IsFaultAt bytes place fault =
    (first : Word) × (rest : List Word) × (first_words (length bytes / 8 - place) (drop (place * 8) bytes) ≡ first ∷ rest)
    × (first_fault first rest ≡ Some fault)
