-- The instruction, if any, that begins with a word of a program.
use Rattle.std.specs.Prelude.{ℕ, ◌*◌, List, [], ◌∷◌, length, take, drop, Option, Some, None}
use Rattle.bpf_insn.specs.Code.{IsCodeOf, spelling}
use Rattle.bpf_insn.specs.declared.instruction.Insn.{Insn}

-- the bytes are the words of this instruction, or of no instruction
abbrev pub IsOnly : List ℕ → Option Insn → Type 0
IsOnly bytes (Some insn) = IsCodeOf bytes (insn ∷ [])
IsOnly bytes None = (insn : Insn) → ¬ (IsCodeOf bytes (insn ∷ []))

-- the instruction of a code that has one
abbrev pub sole : List Insn → Option Insn
sole (insn ∷ []) = Some insn
sole code = None

-- the bytes begin with the words of this instruction, or of no instruction
abbrev pub Begins : List ℕ → Option Insn → Type 0
Begins bytes (Some insn) = IsCodeOf (take (length (spelling insn) * 8) bytes) (insn ∷ [])
Begins bytes None = (insn : Insn) → ¬ (IsCodeOf (take (length (spelling insn) * 8) bytes) (insn ∷ []))

-- the bytes of a program from a place on
abbrev pub from_place : List ℕ → ℕ → List ℕ
from_place program place = drop (place * 8) program
