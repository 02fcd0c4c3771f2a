-- The layout of a question's code. It has one entry, its first instruction, and two exits: it falls through its end on one given answer, and
-- jumps some words past its end on the other. All jumps go forward. Register 6 holds the record's pointer throughout, and registers 7 to 9 hold
-- numbers in programs that write them.
use Rattle.std.specs.Prelude.{◌≡◌, ℕ, zero, suc, ◌+◌, ◌-◌, ◌*◌, ◌/◌, ◌%◌, ◌^◌, ◌<◌, ◌&&◌, ℤ, pos, negsuc, Bool, true, false, not, int_le, nat_le, List, []}
use Rattle.std.specs.Prelude.{◌∷◌, ◌++◌, take, drop, Option, Some, None, MatchResult, Result, if◌then◌else◌}
use Rattle.std.specs.Bool.{beq}
use Rattle.std.specs.List.{list_any}
use Rattle.std.specs.Int.{w32, cast_signed}
use Rattle.std.proofs.Common.{lit≤}
use Rattle.bpf_helpers.specs.Helper.{signature}
use Rattle.bpf_helpers.specs.declared.helper.Helper.{Helper}
use Rattle.bpf_helpers.specs.declared.helper.Helper.TheVariants as helper
use Rattle.bpf_insn.specs.Arithmetic.{immediate_operand}
use Rattle.bpf_insn.specs.Code.{word_count}
use Rattle.bpf_insn.specs.declared.code.TheConstants.{MAX_WORDS}
use Rattle.bpf_insn.specs.declared.instruction.Insn.{Insn}
use Rattle.bpf_insn.specs.declared.instruction.Insn.TheVariants.{Alu, Jump, JumpIf, Call, Exit, StoreImmediate, WideLoad}
use Rattle.bpf_insn.specs.declared.instruction.Insn.TheVariants as insn
use Rattle.bpf_insn.specs.declared.instruction.JumpDistance.{JumpDistance}
use Rattle.bpf_insn.specs.declared.instruction.JumpDistance.TheVariants.{Short, Long}
use Rattle.bpf_insn.specs.declared.instruction.LoadFormat.{LoadFormat}
use Rattle.bpf_insn.specs.declared.instruction.LoadFormat.TheVariants as format
use Rattle.bpf_insn.specs.declared.instruction.Operation.TheVariants.{Add, Move}
use Rattle.bpf_insn.specs.declared.instruction.Source.{Source}
use Rattle.bpf_insn.specs.declared.instruction.Source.TheVariants.{Immediate, Register}
use Rattle.bpf_insn.specs.declared.instruction.StoreSize.TheVariants as store
use Rattle.bpf_insn.specs.declared.instruction.Width.TheVariants.{Bits64}
use Rattle.bpf_insn.specs.declared.register.Register.{Register as RegisterParts}
use Rattle.bpf_insn.specs.declared.register.WritableRegister.{WritableRegister}
use Rattle.cql2.specs.declared.column.NumericColumn.{NumericColumn}
use Rattle.cql2.specs.declared.column.NumericColumn.TheVariants as column
use Rattle.cql2.specs.declared.filter.Comparison.{Comparison}
use Rattle.cql2.specs.declared.filter.Comparison.TheVariants.{Equal, NotEqual, Less, LessOrEqual, Greater, GreaterOrEqual}
use Rattle.cql2_code.specs.declared.fault.CompileFault.{CompileFault}
use Rattle.cql2_code.specs.declared.fault.CompileFault.TheVariants.{TooLong}
use Rattle.cql2_code.specs.Question.{Question, Decided, Holds, Opposite, Joined, Coded, bytes_value, condition_of, coordinate_id, field_id}
use Rattle.cql2_code.specs.declared.question.Chunk.{Chunk}
use Rattle.cql2_code.specs.declared.question.Chunk.TheVariants.{Byte, Word, DoubleWord}
use Rattle.cql2_code.specs.declared.question.Exits.{Exits}
use Rattle.cql2_code.specs.declared.question.Subject.{Subject}
use Rattle.cql2_code.specs.declared.question.Subject.TheVariants.{Number, HasNumber, Coordinate, Names, Ranges, InRange, NameIs, Load}
use Rattle.cql2_code.specs.declared.question.Test.{Test}

-- the registers that the code writes and reads
abbrev pub into_result : WritableRegister
into_result = record { number = 0; in_range = lit≤ tt }

abbrev pub into_argument_1 : WritableRegister
into_argument_1 = record { number = 1; in_range = lit≤ tt }

abbrev pub into_argument_2 : WritableRegister
into_argument_2 = record { number = 2; in_range = lit≤ tt }

abbrev pub into_argument_3 : WritableRegister
into_argument_3 = record { number = 3; in_range = lit≤ tt }

abbrev pub into_record : WritableRegister
into_record = record { number = 6; in_range = lit≤ tt }

-- registers 7 to 9, which keep numbers over calls, by the level at which they are needed
abbrev pub into_saved : ℕ → WritableRegister
into_saved zero = record { number = 7; in_range = lit≤ tt }
into_saved (suc zero) = record { number = 8; in_range = lit≤ tt }
into_saved (suc (suc level)) = record { number = 9; in_range = lit≤ tt }

abbrev pub from_saved : ℕ → RegisterParts
from_saved zero = record { number = 7; in_range = lit≤ tt }
from_saved (suc zero) = record { number = 8; in_range = lit≤ tt }
from_saved (suc (suc level)) = record { number = 9; in_range = lit≤ tt }

abbrev pub from_result : RegisterParts
from_result = record { number = 0; in_range = lit≤ tt }

abbrev pub from_argument_1 : RegisterParts
from_argument_1 = record { number = 1; in_range = lit≤ tt }

abbrev pub from_record : RegisterParts
from_record = record { number = 6; in_range = lit≤ tt }

abbrev pub from_frame : RegisterParts
from_frame = record { number = 10; in_range = lit≤ tt }

abbrev pub move : WritableRegister → ℤ → Insn
move register number = Alu Move Bits64 register (Immediate number)

abbrev pub copy : WritableRegister → RegisterParts → Insn
copy register source = Alu Move Bits64 register (Register source)

-- a load of a 64-bit number into a register, as two halves
abbrev pub wide_load : WritableRegister → ℕ → Insn
wide_load register number = WideLoad register (cast_signed w32 (number % 2 ^ 32)) (cast_signed w32 (number / 2 ^ 32))

-- whether an immediate can hold a number
abbrev pub is_narrow : ℤ → Bool
is_narrow number = int_le (negsuc 2147483647) number && int_le number (pos 2147483647)

-- an instruction that puts a number into a register
abbrev pub set_number : WritableRegister → ℕ → Insn
set_number register number = if nat_le number 2147483647 then move register (pos number) else wide_load register number

-- a call of a helper function
abbrev pub call : Helper → Insn
call called = Call (pos (signature called).number)

-- the name to compare is written into the frame's last 32 bytes, four at a time; register 2 points to it
abbrev pub move_to_name : Insn
move_to_name = Alu Add Bits64 into_argument_2 (Immediate (negsuc 31))

abbrev pub store_word : ℕ → List ℕ → Insn
store_word word bytes =
    StoreImmediate store.Word from_frame (negsuc (31 - 4 * word)) (cast_signed w32 (bytes_value (take 4 (drop (4 * word) bytes))))

abbrev pub store_name : List ℕ → List Insn
store_name bytes =
    store_word 0 bytes ∷ store_word 1 bytes ∷ store_word 2 bytes ∷ store_word 3 bytes ∷ store_word 4 bytes ∷ store_word 5 bytes
    ∷ store_word 6 bytes ∷ store_word 7 bytes ∷ []

abbrev pub load_format : Chunk → LoadFormat
load_format Byte = format.Byte
load_format Word = format.Word
load_format DoubleWord = format.DoubleWord

-- a load of a chunk of the record into register 0
abbrev pub load : Chunk → ℕ → Insn
load chunk at = insn.Load (load_format chunk) into_result from_record (pos at)

-- the code that puts the number a test looks at into register 0
abbrev pub subject_code : Subject → List Insn
subject_code (Number column) = move into_argument_1 (pos (field_id column)) ∷ call helper.Field ∷ []
subject_code (HasNumber column) = move into_argument_1 (pos (field_id column)) ∷ call helper.HasField ∷ []
subject_code (Coordinate column) = move into_argument_1 (pos (coordinate_id column)) ∷ call helper.Coord ∷ []
subject_code Names = call helper.NameCount ∷ []
subject_code Ranges = call helper.RangeCount ∷ []
subject_code (InRange range house) = move into_argument_1 (pos range) ∷ set_number into_argument_2 house ∷ call helper.InRange ∷ []
subject_code (NameIs name required) =
    move into_argument_1 (pos name) ∷ copy into_argument_2 from_frame ∷ move_to_name ∷ move into_argument_3 (pos 30)
    ∷ (store_name required ++ call helper.NameIs ∷ [])
subject_code (Load chunk at) = load chunk at ∷ []

-- the comparison that holds exactly if this one doesn't
abbrev pub opposite : Comparison → Comparison
opposite Equal = NotEqual
opposite NotEqual = Equal
opposite Less = GreaterOrEqual
opposite GreaterOrEqual = Less
opposite Greater = LessOrEqual
opposite LessOrEqual = Greater

-- a jump if a comparison of register 0 holds
abbrev pub jump_if : Comparison → Source → ℤ → Insn
jump_if comparison operand distance = JumpIf (condition_of comparison) Bits64 from_result operand distance

-- a jump, which holds its distance in 16 bits if they suffice and otherwise in 32
unfoldable pub in_field : ℤ → JumpDistance
in_field distance = if int_le distance (pos 32767) then Short distance else Long distance

abbrev pub jump : ℤ → Insn
jump distance = Jump (in_field distance)

-- Words are skipped if a comparison of register 0 holds. A conditional jump has 16 bits for its distance, so if they don't suffice, the opposite
-- comparison skips a jump.
unfoldable pub skip_if : Comparison → Source → ℕ → List Insn
skip_if comparison operand distance =
    if nat_le distance 32767
    then jump_if comparison operand (pos distance) ∷ []
    else jump_if (opposite comparison) operand (pos 1) ∷ jump (pos distance) ∷ []

-- a comparison of register 0 with a number, which is put into register 1 if no immediate holds it
abbrev pub comparison_code : Comparison → ℤ → ℕ → List Insn
comparison_code comparison operand distance =
    if is_narrow operand
    then skip_if comparison (Immediate operand) distance
    else wide_load into_argument_1 (immediate_operand operand) ∷ skip_if comparison (Register from_argument_1) distance

-- the code of a test, which jumps unless the answer is the one that falls through
abbrev pub test_code : Test → Bool → ℕ → List Insn
test_code test falls skip =
    subject_code test.subject ++ comparison_code (if falls then opposite test.comparison else test.comparison) test.operand skip

-- the distance that the first of two questions jumps past its end, by the number of words in the second one
abbrev pub first_skip : Bool → Bool → ℕ → ℕ → ℕ
first_skip falls neutral words skip = if beq falls neutral then words + skip else words

-- The first of two questions falls through if the second one must be asked. If it decides, it jumps: past the second one if the answer is the one
-- that falls through, and otherwise to where the second one jumps.
abbrev pub question_code : Question → Bool → ℕ → List Insn
question_code (Decided found) falls skip = if beq found falls then [] else jump (pos skip) ∷ []
question_code (Holds test) falls skip = test_code test falls skip
question_code (Opposite question) falls skip = question_code question (not falls) skip
question_code (Joined neutral first second) falls skip =
    question_code first neutral (first_skip falls neutral (word_count (question_code second falls skip)) skip)
    ++ question_code second falls skip
question_code (Coded block) falls skip = block.code falls skip

-- a code is too long for a program: it has more words than a program can have
pub record IsTooLong (code : List Insn) : Type 0 where
  pub words : MAX_WORDS < word_count code

-- a code may be refused: as too long only if it is, and otherwise because an allocation fails
pub record MayBeRefused (code : List Insn) (fault : CompileFault) : Type 0 where
  pub too_long : fault ≡ TooLong → IsTooLong code

-- a code is written or refused
abbrev pub IsPrepended : {T : Type 0} → Result T CompileFault → List Insn → List Insn → Type 0
IsPrepended result code new = MatchResult result (λ _. new ≡ code) (MayBeRefused code)

-- the code of a question is written before another code
pub record Writes (question : Question) (exits : Exits) (old new : List Insn) : Type 0 where
  pub code : new ≡ question_code question exits.falls exits.skip ++ old

-- the code of a question may be refused
pub record Refuses (question : Question) (exits : Exits) (old : List Insn) (fault : CompileFault) : Type 0 where
  pub too_long : fault ≡ TooLong → IsTooLong (question_code question exits.falls exits.skip ++ old)

-- the code of a question is written before another code, or refused
abbrev pub Prepends : {T : Type 0} → Result T CompileFault → Question → Exits → List Insn → List Insn → Type 0
Prepends result question exits old new = MatchResult result (λ _. Writes question exits old new) (Refuses question exits old)

-- the exits of the first of two questions, given those of the second one and its number of words
pub record IsBefore (neutral : Bool) (exits before : Exits) (words : ℕ) : Type 0 where
  pub falls : before.falls ≡ neutral
  pub skip : before.skip ≡ first_skip exits.falls neutral words exits.skip

-- the code that emits the score column, if there is one: its number or coordinate, or 0 if it has none
abbrev pub score_code : Option NumericColumn → List Insn
score_code None = []
score_code (Some (column.Number field)) =
    move into_argument_1 (pos (field_id field)) ∷ call helper.Field ∷ copy into_argument_1 from_result ∷ call helper.Emit ∷ []
score_code (Some (column.Coordinate place)) =
    move into_argument_1 (pos (coordinate_id place)) ∷ call helper.Coord ∷ copy into_argument_1 from_result ∷ call helper.Emit ∷ []

abbrev pub answer_code : ℕ → List Insn
answer_code number = move into_result (pos number) ∷ Exit ∷ []

-- the code for the answer yes
abbrev pub chosen_code : Option NumericColumn → List Insn
chosen_code score = score_code score ++ answer_code 1

-- an instruction that writes one of registers 7 to 9
abbrev pub writes_saved : Insn → Bool
writes_saved (Alu operation width destination source) = nat_le 7 destination.number
writes_saved insn = false

-- the code that sets registers 7 to 9, if the program keeps numbers in them
abbrev pub saved_code : Bool → List Insn
saved_code true = move (into_saved 0) (pos 0) ∷ move (into_saved 1) (pos 0) ∷ move (into_saved 2) (pos 0) ∷ []
saved_code false = []

-- a program begins by keeping the record's pointer in register 6
abbrev pub begun : List Insn → List Insn
begun code = copy into_record from_argument_1 ∷ (saved_code (list_any writes_saved code) ++ code)

-- the whole program
abbrev pub program : Option NumericColumn → Question → List Insn
program score question = begun (question_code question true (word_count (chosen_code score)) ++ (chosen_code score ++ answer_code 0))
