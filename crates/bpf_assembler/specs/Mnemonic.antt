-- The table of mnemonics, used in both directions: to look up a line's first word, and to write an instruction's name.
use Rattle.std.specs.Prelude.{ℕ, List, [], ◌++◌, find, codes, Option}
use Rattle.std.specs.Str.{bytes_eq}
use Rattle.bpf_insn.specs.declared.instruction.Operation.{Operation}
use Rattle.bpf_insn.specs.declared.instruction.Operation.TheVariants.{Add, Subtract, Multiply, Divide, SignedDivide, Or, And, ShiftLeft, ShiftRight, Modulo}
use Rattle.bpf_insn.specs.declared.instruction.Operation.TheVariants.{SignedModulo, ExclusiveOr, Move, ArithmeticShiftRight}
use Rattle.bpf_insn.specs.declared.instruction.Width.{Width}
use Rattle.bpf_insn.specs.declared.instruction.Width.TheVariants.{Bits32, Bits64}
use Rattle.bpf_insn.specs.declared.instruction.Condition.{Condition}
use Rattle.bpf_insn.specs.declared.instruction.Condition.TheVariants.{Equal, Greater, GreaterOrEqual, SharesBit, NotEqual, SignedGreater, SignedGreaterOrEqual}
use Rattle.bpf_insn.specs.declared.instruction.Condition.TheVariants.{Less, LessOrEqual, SignedLess, SignedLessOrEqual}
use Rattle.bpf_insn.specs.declared.instruction.SignExtension.{SignExtension}
use Rattle.bpf_insn.specs.declared.instruction.SignExtension.TheVariants.{Bits8To64, Bits16To64, Bits32To64, Bits8To32, Bits16To32}
use Rattle.bpf_insn.specs.declared.instruction.ByteOrder.{ByteOrder}
use Rattle.bpf_insn.specs.declared.instruction.ByteOrder.TheVariants.{LittleEndian, BigEndian, Swapped}
use Rattle.bpf_insn.specs.declared.instruction.SwapWidth.{SwapWidth}
use Rattle.bpf_insn.specs.declared.instruction.SwapWidth.TheVariants as swap
use Rattle.bpf_insn.specs.declared.instruction.LoadFormat.{LoadFormat}
use Rattle.bpf_insn.specs.declared.instruction.LoadFormat.TheVariants as load
use Rattle.bpf_insn.specs.declared.instruction.StoreSize.{StoreSize}
use Rattle.bpf_insn.specs.declared.instruction.StoreSize.TheVariants as store
use Rattle.bpf_assembler.specs.declared.mnemonic_form.MnemonicForm.{MnemonicForm}
use Rattle.bpf_assembler.specs.declared.mnemonic_form.MnemonicForm.TheVariants.{Alu, MoveSignExtended, Negate, ByteSwap, JumpIf, ShortJump, LongJump, Call, Exit}
use Rattle.bpf_assembler.specs.declared.mnemonic_form.MnemonicForm.TheVariants.{Load}
use Rattle.bpf_assembler.specs.declared.mnemonic_form.MnemonicForm.TheVariants.{StoreImmediate, Store, WideLoad}
use Rattle.bpf_assembler.specs.declared.mnemonic_form.TheConstants.{FORMS}

-- arithmetic (RFC 9669, section 4.1)
abbrev pub operation_name : Operation → List ℕ
operation_name Add = codes "add"
operation_name Subtract = codes "sub"
operation_name Multiply = codes "mul"
operation_name Divide = codes "div"
operation_name SignedDivide = codes "sdiv"
operation_name Or = codes "or"
operation_name And = codes "and"
operation_name ShiftLeft = codes "lsh"
operation_name ShiftRight = codes "rsh"
operation_name Modulo = codes "mod"
operation_name SignedModulo = codes "smod"
operation_name ExclusiveOr = codes "xor"
operation_name Move = codes "mov"
operation_name ArithmeticShiftRight = codes "arsh"

-- only operations on 32 bits name their width
abbrev pub width_name : Width → List ℕ
width_name Bits64 = []
width_name Bits32 = codes "32"

-- moves with sign extension (section 4.1), by the number of bits that they extend; those that extend to 32 bits say so
abbrev pub extension_name : SignExtension → List ℕ
extension_name Bits8To64 = codes "movsx8"
extension_name Bits16To64 = codes "movsx16"
extension_name Bits32To64 = codes "movsx32"
extension_name Bits8To32 = codes "movsx8_32"
extension_name Bits16To32 = codes "movsx16_32"

-- byte swaps (section 4.2), and their numbers of bits
abbrev pub order_name : ByteOrder → List ℕ
order_name LittleEndian = codes "le"
order_name BigEndian = codes "be"
order_name Swapped = codes "swap"

abbrev pub swap_name : SwapWidth → List ℕ
swap_name swap.Bits16 = codes "16"
swap_name swap.Bits32 = codes "32"
swap_name swap.Bits64 = codes "64"

-- conditional jumps (section 4.3)
abbrev pub condition_name : Condition → List ℕ
condition_name Equal = codes "jeq"
condition_name Greater = codes "jgt"
condition_name GreaterOrEqual = codes "jge"
condition_name SharesBit = codes "jset"
condition_name NotEqual = codes "jne"
condition_name SignedGreater = codes "jsgt"
condition_name SignedGreaterOrEqual = codes "jsge"
condition_name Less = codes "jlt"
condition_name LessOrEqual = codes "jle"
condition_name SignedLess = codes "jslt"
condition_name SignedLessOrEqual = codes "jsle"

-- loads (sections 5.1 and 5.2)
abbrev pub load_name : LoadFormat → List ℕ
load_name load.Byte = codes "ldxb"
load_name load.HalfWord = codes "ldxh"
load_name load.Word = codes "ldxw"
load_name load.DoubleWord = codes "ldxdw"
load_name load.SignedByte = codes "ldxsb"
load_name load.SignedHalfWord = codes "ldxsh"
load_name load.SignedWord = codes "ldxsw"

-- the sizes that stores write (section 5.1)
abbrev pub size_name : StoreSize → List ℕ
size_name store.Byte = codes "b"
size_name store.HalfWord = codes "h"
size_name store.Word = codes "w"
size_name store.DoubleWord = codes "dw"

-- the mnemonic of each form
abbrev pub name_of : MnemonicForm → List ℕ
name_of (Alu operation width) = operation_name operation ++ width_name width
name_of (MoveSignExtended extension) = extension_name extension
name_of (Negate width) = codes "neg" ++ width_name width
name_of (ByteSwap order width) = order_name order ++ swap_name width
name_of (JumpIf condition width) = condition_name condition ++ width_name width
name_of ShortJump = codes "ja"
name_of LongJump = codes "ja32"
name_of Call = codes "call"
name_of Exit = codes "exit"
name_of (Load format) = load_name format
name_of (StoreImmediate size) = codes "st" ++ size_name size
name_of (Store size) = codes "stx" ++ size_name size
name_of WideLoad = codes "lddw"

-- the form that a mnemonic names
abbrev pub form_named : List ℕ → Option MnemonicForm
form_named word = find (λ form. bytes_eq (name_of form) word) FORMS
