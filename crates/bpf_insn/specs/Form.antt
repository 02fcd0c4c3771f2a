-- The instruction table (RFC 9669, sections 3 to 5): how each instruction is encoded, one line per row.
use Rattle.std.specs.Prelude.{ℕ, ◌+◌, ◌*◌, ℤ, pos, Bool, true, false, if◌then◌else◌, List, [], ◌∷◌}
use Rattle.bpf_insn.specs.declared.word.Word.{Word}
use Rattle.bpf_insn.specs.declared.opcode_form.OpcodeForm.{OpcodeForm}
use Rattle.bpf_insn.specs.declared.opcode_form.OpcodeForm.TheVariants as form
use Rattle.bpf_insn.specs.declared.instruction.Insn.{Insn}
use Rattle.bpf_insn.specs.declared.instruction.Insn.TheVariants.{Alu, MoveSignExtended, Negate, ByteSwap, JumpIf, Jump, Call, Exit, Load, StoreImmediate, Store, WideLoad}
use Rattle.bpf_insn.specs.declared.instruction.Operation.{Operation}
use Rattle.bpf_insn.specs.declared.instruction.Operation.TheVariants.{Add, Subtract, Multiply, Divide, SignedDivide, Or, And, ShiftLeft, ShiftRight, Modulo, SignedModulo, ExclusiveOr, Move, ArithmeticShiftRight}
use Rattle.bpf_insn.specs.declared.instruction.Width.{Width}
use Rattle.bpf_insn.specs.declared.instruction.Width.TheVariants.{Bits32, Bits64}
use Rattle.bpf_insn.specs.declared.instruction.Source.{Source}
use Rattle.bpf_insn.specs.declared.instruction.Source.TheVariants.{Immediate, Register}
use Rattle.bpf_insn.specs.declared.instruction.SignExtension.{SignExtension}
use Rattle.bpf_insn.specs.declared.instruction.SignExtension.TheVariants.{Bits8To32, Bits16To32, Bits8To64, Bits16To64, Bits32To64}
use Rattle.bpf_insn.specs.declared.instruction.ByteOrder.{ByteOrder}
use Rattle.bpf_insn.specs.declared.instruction.ByteOrder.TheVariants.{LittleEndian, BigEndian, Swapped}
use Rattle.bpf_insn.specs.declared.instruction.SwapWidth.{SwapWidth}
use Rattle.bpf_insn.specs.declared.instruction.SwapWidth.TheVariants as swap
use Rattle.bpf_insn.specs.declared.instruction.Condition.{Condition}
use Rattle.bpf_insn.specs.declared.instruction.Condition.TheVariants.{Equal, Greater, GreaterOrEqual, SharesBit, NotEqual, SignedGreater, SignedGreaterOrEqual, Less, LessOrEqual, SignedLess, SignedLessOrEqual}
use Rattle.bpf_insn.specs.declared.instruction.JumpDistance.TheVariants.{Short, Long}
use Rattle.bpf_insn.specs.declared.instruction.LoadFormat.{LoadFormat}
use Rattle.bpf_insn.specs.declared.instruction.LoadFormat.TheVariants as load
use Rattle.bpf_insn.specs.declared.instruction.StoreSize.{StoreSize}
use Rattle.bpf_insn.specs.declared.instruction.StoreSize.TheVariants as store

-- a word with these fields
abbrev pub word : ℕ → ℕ → ℕ → ℤ → ℤ → Word
word opcode destination source offset immediate =
    record { opcode = opcode; destination = destination; source = source; offset = offset; immediate = immediate }

-- The opcode of arithmetic and of jumps: the class in the three low bits, the source in the next bit, the code in the four high bits (section 4).
-- The source bit is 0 (K) for an immediate, 1 (X) for a register.
abbrev pub opcode_of : ℕ → ℕ → ℕ → ℕ
opcode_of code source class = code * 16 + source * 8 + class

-- the classes ALU and ALU64 (section 3.3)
abbrev pub arithmetic_class : Width → ℕ
arithmetic_class Bits32 = 4
arithmetic_class Bits64 = 7

-- the classes JMP32 and JMP (section 3.3)
abbrev pub jump_class : Width → ℕ
jump_class Bits32 = 6
jump_class Bits64 = 5

-- the codes of arithmetic (section 4.1)
abbrev pub operation_code : Operation → ℕ
operation_code Add = 0x0
operation_code Subtract = 0x1
operation_code Multiply = 0x2
operation_code Divide = 0x3
operation_code SignedDivide = 0x3
operation_code Or = 0x4
operation_code And = 0x5
operation_code ShiftLeft = 0x6
operation_code ShiftRight = 0x7
operation_code Modulo = 0x9
operation_code SignedModulo = 0x9
operation_code ExclusiveOr = 0xa
operation_code Move = 0xb
operation_code ArithmeticShiftRight = 0xc

-- the offset distinguishes signed division and remainder from unsigned ones (section 4.1)
abbrev pub operation_offset : Operation → ℤ
operation_offset SignedDivide = pos 1
operation_offset SignedModulo = pos 1
operation_offset operation = pos 0

-- a move with sign extension: the width that it writes, and in the offset the number of bits that it takes (section 4.1)
abbrev pub extension_width : SignExtension → Width
extension_width Bits8To32 = Bits32
extension_width Bits16To32 = Bits32
extension_width Bits8To64 = Bits64
extension_width Bits16To64 = Bits64
extension_width Bits32To64 = Bits64

abbrev pub extension_bits : SignExtension → ℤ
extension_bits Bits8To32 = pos 8
extension_bits Bits16To32 = pos 16
extension_bits Bits8To64 = pos 8
extension_bits Bits16To64 = pos 16
extension_bits Bits32To64 = pos 32

-- byte swaps: in the class ALU the source bit distinguishes little from big endian, in ALU64 it's zero (section 4.2)
abbrev pub swap_opcode : ByteOrder → ℕ
swap_opcode LittleEndian = 0xd4
swap_opcode BigEndian = 0xdc
swap_opcode Swapped = 0xd7

-- the number of bits that a byte swap keeps
abbrev pub swap_bits : SwapWidth → ℤ
swap_bits swap.Bits16 = pos 16
swap_bits swap.Bits32 = pos 32
swap_bits swap.Bits64 = pos 64

-- the codes of conditional jumps (section 4.3)
abbrev pub condition_code : Condition → ℕ
condition_code Equal = 0x1
condition_code Greater = 0x2
condition_code GreaterOrEqual = 0x3
condition_code SharesBit = 0x4
condition_code NotEqual = 0x5
condition_code SignedGreater = 0x6
condition_code SignedGreaterOrEqual = 0x7
condition_code Less = 0xa
condition_code LessOrEqual = 0xb
condition_code SignedLess = 0xc
condition_code SignedLessOrEqual = 0xd

-- loads, in the class LDX: the modes MEM (section 5.1) and MEMSX (section 5.2) and the sizes W, H, B and DW
abbrev pub load_opcode : LoadFormat → ℕ
load_opcode load.Word = 0x61
load_opcode load.HalfWord = 0x69
load_opcode load.Byte = 0x71
load_opcode load.DoubleWord = 0x79
load_opcode load.SignedWord = 0x81
load_opcode load.SignedHalfWord = 0x89
load_opcode load.SignedByte = 0x91

-- the sizes of stores (section 5.1)
abbrev pub size_code : StoreSize → ℕ
size_code store.Word = 0x00
size_code store.HalfWord = 0x08
size_code store.Byte = 0x10
size_code store.DoubleWord = 0x18

-- the source bit (section 4)
abbrev pub bit : Bool → ℕ
bit from_register = if from_register then 1 else 0

-- The opcode of a form: jumps (JA), calls and EXIT (section 4.3), stores of an immediate in the class ST and of a register in STX (section 5.1),
-- and the wide load (section 5.4).
abbrev pub form_opcode : OpcodeForm → ℕ
form_opcode (form.Alu operation width from_register) = opcode_of (operation_code operation) (bit from_register) (arithmetic_class width)
form_opcode (form.Negate width) = opcode_of 0x8 0 (arithmetic_class width)
form_opcode (form.ByteSwap order) = swap_opcode order
form_opcode (form.JumpIf condition width from_register) = opcode_of (condition_code condition) (bit from_register) (jump_class width)
form_opcode form.ShortJump = 0x05
form_opcode form.LongJump = 0x06
form_opcode form.Call = 0x85
form_opcode form.Exit = 0x95
form_opcode (form.Load format) = load_opcode format
form_opcode (form.StoreImmediate size) = 0x62 + size_code size
form_opcode (form.Store size) = 0x63 + size_code size
form_opcode form.WideLoad = 0x18

-- the second operand: whether it's a register, and the values of the source field and of the immediate
abbrev pub is_register : Source → Bool
is_register (Immediate value) = false
is_register (Register register) = true

abbrev pub source_field : Source → ℕ
source_field (Immediate value) = 0
source_field (Register register) = register.number

abbrev pub source_immediate : Source → ℤ
source_immediate (Immediate value) = value
source_immediate (Register register) = pos 0

-- the form of an instruction
abbrev pub opcode_form : Insn → OpcodeForm
opcode_form (Alu operation width destination source) = form.Alu operation width (is_register source)
opcode_form (MoveSignExtended extension destination source) = form.Alu Move (extension_width extension) true
opcode_form (Negate width destination) = form.Negate width
opcode_form (ByteSwap order width destination) = form.ByteSwap order
opcode_form (JumpIf condition width left right offset) = form.JumpIf condition width (is_register right)
opcode_form (Jump (Short distance)) = form.ShortJump
opcode_form (Jump (Long distance)) = form.LongJump
opcode_form (Call immediate) = form.Call
opcode_form Exit = form.Exit
opcode_form (Load format destination base offset) = form.Load format
opcode_form (StoreImmediate size base offset immediate) = form.StoreImmediate size
opcode_form (Store size base offset source) = form.Store size
opcode_form (WideLoad destination immediate next_immediate) = form.WideLoad

-- The first word of an instruction: its opcode, the fields that it uses, and zero in all others (section 3.1: unused fields are zero). One line for
-- each row of the instruction table.
abbrev pub first_word : Insn → Word
first_word (Alu operation width destination source) =
    word (form_opcode (form.Alu operation width (is_register source))) destination.number (source_field source) (operation_offset operation)
    (source_immediate source)
first_word (MoveSignExtended extension destination source) =
    word (form_opcode (form.Alu Move (extension_width extension) true)) destination.number source.number (extension_bits extension) (pos 0)
first_word (Negate width destination) = word (form_opcode (form.Negate width)) destination.number 0 (pos 0) (pos 0)
first_word (ByteSwap order width destination) = word (form_opcode (form.ByteSwap order)) destination.number 0 (pos 0) (swap_bits width)
first_word (JumpIf condition width left right offset) =
    word (form_opcode (form.JumpIf condition width (is_register right))) left.number (source_field right) offset (source_immediate right)
first_word (Jump (Short distance)) = word (form_opcode form.ShortJump) 0 0 distance (pos 0)
first_word (Jump (Long distance)) = word (form_opcode form.LongJump) 0 0 (pos 0) distance
first_word (Call immediate) = word (form_opcode form.Call) 0 0 (pos 0) immediate
first_word Exit = word (form_opcode form.Exit) 0 0 (pos 0) (pos 0)
first_word (Load format destination base offset) = word (form_opcode (form.Load format)) destination.number base.number offset (pos 0)
first_word (StoreImmediate size base offset immediate) = word (form_opcode (form.StoreImmediate size)) base.number 0 offset immediate
first_word (Store size base offset source) = word (form_opcode (form.Store size)) base.number source.number offset (pos 0)
first_word (WideLoad destination immediate next_immediate) = word (form_opcode form.WideLoad) destination.number 0 (pos 0) immediate

-- the words after it: the second word of a wide load, which contains only an immediate (section 5.4)
abbrev pub further_words : Insn → List Word
further_words (WideLoad destination immediate next_immediate) = word 0 0 0 (pos 0) next_immediate ∷ []
further_words insn = []

-- the words that spell an instruction
abbrev pub spelling : Insn → List Word
spelling insn = first_word insn ∷ further_words insn
