-- The code of bytes, and the first fault of bytes without one (RFC 9669, sections 3 to 5).
use Rattle.std.specs.Prelude.{◌≡◌, ◌≢◌, ℕ, suc, ◌+◌, ◌-◌, ◌⊎◌, ◌*◌, ◌<◌, ◌≤◌, ◌%◌, ◌==◌, nat_lt, option_map, List, [], ◌∷◌, ◌++◌, length, take, Option, Some, None, if◌then◌else◌}
use Rattle.std.specs.List.{flat_map}
use Rattle.bpf_insn.specs.Word.{words_of}
use Rattle.bpf_insn.specs.Fault.{first_fault}
pub use Rattle.bpf_insn.specs.Form.{word, spelling, first_word}
use Rattle.bpf_insn.specs.declared.word.Word.{Word}
use Rattle.bpf_insn.specs.declared.fault.CodeFault.{CodeFault}
use Rattle.bpf_insn.specs.declared.fault.CodeFault.TheVariants as code_fault
use Rattle.bpf_insn.specs.declared.fault.WordFault.{WordFault}
use Rattle.bpf_insn.specs.declared.instruction.Insn.{Insn}
use Rattle.bpf_insn.specs.declared.code.TheConstants.{MAX_WORDS}

-- the words of consecutive instructions
abbrev pub code_words : List Insn → List Word
code_words code = flat_map spelling code

-- the number of words that instructions take, which is the place of what follows them
abbrev pub word_count : List Insn → ℕ
word_count code = length (code_words code)

-- a program has 1 to WORD_LIMIT words
abbrev pub HasProgramSize : ℕ → Type 0
HasProgramSize words = (1 ≤ words) × (words ≤ MAX_WORDS)

-- the bytes are exactly these instructions, one directly after the other
pub record IsCodeOf (bytes : List ℕ) (code : List Insn) : Type 0 where
  pub whole : length bytes % 8 ≡ 0
  pub words : words_of bytes ≡ code_words code
  pub sized : HasProgramSize (word_count code)

-- the instruction that begins at a place, which counts words from 0
abbrev pub instruction_at : List Insn → ℕ → Option Insn
instruction_at [] place = None
instruction_at (insn ∷ code) place =
    if place == 0 then Some insn
    else (if nat_lt place (length (spelling insn)) then None else instruction_at code (place - length (spelling insn)))

-- the index of the instruction that begins at a place, which is the number of instructions before it
abbrev pub index_at : List Insn → ℕ → Option ℕ
index_at [] place = None
index_at (insn ∷ code) place =
    if place == 0 then Some 0
    else (if nat_lt place (length (spelling insn)) then None else option_map suc (index_at code (place - length (spelling insn))))

-- why an instruction can't be appended to others: it doesn't fit, or memory runs out
abbrev pub IsPushFault : List Insn → Insn → CodeFault → Type 0
IsPushFault code insn fault = ((fault ≡ code_fault.TooLong) × (MAX_WORDS < word_count code + length (spelling insn))) ⊎ (fault ≡ code_fault.Memory)

-- the place of the instruction with an index, which counts instructions from 0
abbrev pub place_of : List Insn → ℕ → ℕ
place_of code index = word_count (take index code)

-- The bytes' words begin with consecutive instructions, and at their end, which is the place, are words with this fault.
abbrev pub HasFaultAt : List ℕ → ℕ → WordFault → Type 0
HasFaultAt bytes place fault =
    (code : List Insn) × (faulty : Word) × (rest : List Word) × (words_of bytes ≡ code_words code ++ faulty ∷ rest)
    × (place ≡ word_count code) × (first_fault faulty rest ≡ Some fault)

-- The first fault of bytes: that of their length, or that of the first word that begins no instruction. (Any bytes may be refused because memory
-- runs out.)
abbrev pub IsFirstFault : List ℕ → CodeFault → Type 0
IsFirstFault bytes code_fault.Empty = length bytes ≡ 0
IsFirstFault bytes code_fault.NotWhole = length bytes % 8 ≢ 0
IsFirstFault bytes code_fault.TooLong = (length bytes % 8 ≡ 0) × (8 * MAX_WORDS < length bytes)
IsFirstFault bytes (code_fault.InWord place fault) =
    (length bytes % 8 ≡ 0) × (length bytes ≤ 8 * MAX_WORDS) × HasFaultAt bytes place fault
IsFirstFault bytes code_fault.Memory = Unit {0}
