-- The code that a program text means, and the first fault of a text that means none.
use Rattle.std.specs.Prelude.{◌≡◌, ℕ, suc, ℤ, pos, negsuc, ◌-ℤ◌, ◌+◌, ◌≤◌, ◌⊎◌, ◌&&◌, Bool, nat_lt, int_lt, int_le, is_some, if◌then◌else◌, List, [], ◌∷◌, ◌++◌}
use Rattle.std.specs.Prelude.{length, map, Option, Some, None, Result, Ok, Err}
use Rattle.std.specs.Str.{bytes_eq}
use Rattle.std.specs.Str.Lines.{lines}
use Rattle.bpf_insn.specs.Form.{spelling}
use Rattle.bpf_insn.specs.declared.code.TheConstants.{MAX_WORDS}
use Rattle.bpf_insn.specs.declared.instruction.Insn.{Insn}
use Rattle.bpf_insn.specs.declared.instruction.Insn.TheVariants.{JumpIf, Jump}
use Rattle.bpf_insn.specs.declared.instruction.JumpDistance.TheVariants.{Short, Long}
use Rattle.bpf_assembler.specs.declared.fault.TextFaultKind.{TextFaultKind}
use Rattle.bpf_assembler.specs.declared.fault.TextFaultKind.TheVariants.{DoubleLabel, TooLong, NoInstruction, UnknownLabel, LabelTooFar}
use Rattle.bpf_assembler.specs.declared.fault.TextFault.{TextFault}
use Rattle.bpf_assembler.specs.declared.fault.TextFault.TheVariants.{InLine, Memory}
use Rattle.bpf_assembler.specs.Statement.{Statement, Blank, Label, Instruction, statement_in}

-- the number of words of the instructions: the place after them
abbrev pub words_of : List Statement → ℕ
words_of [] = 0
words_of (Blank ∷ rest) = words_of rest
words_of (Label name ∷ rest) = words_of rest
words_of (Instruction insn target ∷ rest) = length (spelling insn) + words_of rest

-- A label's place is that of the next instruction, or the end of the program. `place` is the place of the first statement.
abbrev pub label_from : ℕ → List ℕ → List Statement → Option ℕ
label_from place name [] = None
label_from place name (Blank ∷ rest) = label_from place name rest
label_from place name (Label other ∷ rest) = if bytes_eq other name then Some place else label_from place name rest
label_from place name (Instruction insn target ∷ rest) = label_from (place + length (spelling insn)) name rest

abbrev pub label_place : List ℕ → List Statement → Option ℕ
label_place name statements = label_from 0 name statements

-- the fault of a statement that follows others: a label is defined only once, and a program has up to WORD_LIMIT words
abbrev pub fault_after : List Statement → Statement → Option TextFaultKind
fault_after before Blank = None
fault_after before (Label name) = if is_some (label_place name before) then Some DoubleLabel else None
fault_after before (Instruction insn target) = if nat_lt MAX_WORDS (words_of before + length (spelling insn)) then Some TooLong else None

-- no statement has a fault, each following those before it
abbrev pub FaultlessAfter : List Statement → List Statement → Type 0
FaultlessAfter before [] = Unit {0}
FaultlessAfter before (statement ∷ rest) = (fault_after before statement ≡ None) × FaultlessAfter (before ++ statement ∷ []) rest

-- an instruction of a program text, with its line number, its place, and the label that it names
pub record Item : Type 0 where
  pub line : ℕ
  pub place : ℕ
  pub insn : Insn
  pub target : Option (List ℕ)

abbrev pub item : ℕ → ℕ → Insn → Option (List ℕ) → Item
item line place insn target = record { line = line; place = place; insn = insn; target = target }

-- the items of statements, given the line number and the place of the first statement
abbrev pub items_from : ℕ → ℕ → List Statement → List Item
items_from line place [] = []
items_from line place (Blank ∷ rest) = items_from (suc line) place rest
items_from line place (Label name ∷ rest) = items_from (suc line) place rest
items_from line place (Instruction insn target ∷ rest) = item line place insn target ∷ items_from (suc line) (place + length (spelling insn)) rest

-- a jump with another distance, if the distance fits its field
abbrev pub fits_16_bits : ℤ → Bool
fits_16_bits distance = int_le (negsuc 32767) distance && int_lt distance (pos 32768)

abbrev pub fits_32_bits : ℤ → Bool
fits_32_bits distance = int_le (negsuc 2147483647) distance && int_lt distance (pos 2147483648)

abbrev pub at_distance : ℤ → Insn → Option Insn
at_distance distance (JumpIf condition width left right offset) =
    if fits_16_bits distance then Some (JumpIf condition width left right distance) else None
at_distance distance (Jump (Short offset)) = if fits_16_bits distance then Some (Jump (Short distance)) else None
at_distance distance (Jump (Long offset)) = if fits_32_bits distance then Some (Jump (Long distance)) else None
at_distance distance insn = Some insn

-- An instruction whose label is looked up among the statements. The distance counts from the word after the jump, which is one word long.
abbrev pub jump_by : Option Insn → Result Insn TextFaultKind
jump_by (Some insn) = Ok insn
jump_by None = Err LabelTooFar

abbrev pub jump_to : ℕ → Insn → Option ℕ → Result Insn TextFaultKind
jump_to place insn (Some target) = jump_by (at_distance (pos target -ℤ pos (place + 1)) insn)
jump_to place insn None = Err UnknownLabel

abbrev pub resolve_at : List Statement → ℕ → Insn → Option (List ℕ) → Result Insn TextFaultKind
resolve_at statements place insn None = Ok insn
resolve_at statements place insn (Some name) = jump_to place insn (label_place name statements)

abbrev pub resolve : List Statement → Item → Result Insn TextFaultKind
resolve statements item = resolve_at statements item.place item.insn item.target

-- the instructions of the items, or the first fault, with its line
abbrev pub onto_code : ℕ → Result Insn TextFaultKind → Result (List Insn) TextFault → Result (List Insn) TextFault
onto_code line (Ok insn) (Ok code) = Ok (insn ∷ code)
onto_code line (Ok insn) (Err fault) = Err fault
onto_code line (Err fault) code = Err (InLine line fault)

abbrev pub code_from : List Statement → List Item → Result (List Insn) TextFault
code_from statements [] = Ok []
code_from statements (item ∷ items) = onto_code item.line (resolve statements item) (code_from statements items)

abbrev pub code_of : List Statement → Result (List Insn) TextFault
code_of statements = code_from statements (items_from 1 0 statements)

-- each line of the text means a statement, and none of them has a fault
pub record HasStatements (text : List ℕ) (statements : List Statement) : Type 0 where
  pub meant : map statement_in (lines text) ≡ map Ok statements
  pub faultless : FaultlessAfter [] statements

-- the text means these instructions, of which there is at least one
pub record Means (text : List ℕ) (code : List Insn) : Type 0 where
  pub statements : List Statement
  pub has_statements : HasStatements text statements
  pub meant : code_of statements ≡ Ok code
  pub some : 1 ≤ length code

-- why a line is refused that follows statements: it has no meaning, or its statement has a fault
abbrev pub refusal_after : List Statement → Result Statement TextFaultKind → Option TextFaultKind
refusal_after before (Ok statement) = fault_after before statement
refusal_after before (Err fault) = Some fault

-- the lines before this one are statements without a fault, and this line has this fault
pub record HasFirstFaultAt (text : List ℕ) (line : ℕ) (fault : TextFaultKind) : Type 0 where
  pub before : List Statement
  pub front : List (List ℕ)
  pub faulty : List ℕ
  pub back : List (List ℕ)
  pub split : lines text ≡ front ++ faulty ∷ back
  pub meant : map statement_in front ≡ map Ok before
  pub faultless : FaultlessAfter [] before
  pub numbered : line ≡ suc (length front)
  pub refused : refusal_after before (statement_in faulty) ≡ Some fault

-- no line has a fault, and there is no instruction
abbrev pub HasNoInstruction : List ℕ → ℕ → TextFaultKind → Type 0
HasNoInstruction text line fault =
    (statements : List Statement) × HasStatements text statements × (code_of statements ≡ Ok []) × (line ≡ 1) × (fault ≡ NoInstruction)

-- no line has a fault, and this is the first line whose label has no place, or one too far away
abbrev pub HasBadTarget : List ℕ → ℕ → TextFaultKind → Type 0
HasBadTarget text line fault =
    (statements : List Statement) × HasStatements text statements × (code_of statements ≡ Err (InLine line fault))

-- The first fault of a text: that of a line, on its own or after the lines before it; otherwise that there is no instruction; otherwise that of a
-- jump to a label. (If an allocation fails, any text may be refused.)
abbrev pub IsFirstFault : List ℕ → TextFault → Type 0
IsFirstFault text (InLine line fault) = HasFirstFaultAt text line fault ⊎ HasNoInstruction text line fault ⊎ HasBadTarget text line fault
IsFirstFault text Memory = Unit {0}
