-- Arithmetic on numbers modulo 2^32 and 2^64 (RFC 9669, sections 4 and 5). Signed numbers are in two's complement: `cast_signed w` reads w bits as
-- a signed number, and `cast_unsigned w` returns the w bits of a signed number.
use Rattle.std.specs.Prelude.{ℕ, ℤ, ◌+◌, ◌-◌, ◌*◌, ◌/◌, ◌%◌, ◌^◌, ◌==◌, nat_lt, nat_le, Bool, not, if◌then◌else◌, bit_and, bit_or, bit_xor, int_lt, int_le, int_div, int_rem}
use Rattle.std.specs.Int.{w8, w16, w32, w64, cast_signed, cast_unsigned, int_shr, swap_bytes}
use Rattle.std.specs.Int.{Width as Bits}
use mir.Val.{bits}
use Rattle.bpf_insn.specs.declared.instruction.Operation.{Operation}
use Rattle.bpf_insn.specs.declared.instruction.Operation.TheVariants.{Add, Subtract, Multiply, Divide, SignedDivide, Or, And, ShiftLeft, ShiftRight, Modulo, SignedModulo, ExclusiveOr, Move, ArithmeticShiftRight}
use Rattle.bpf_insn.specs.declared.instruction.Width.{Width}
use Rattle.bpf_insn.specs.declared.instruction.Width.TheVariants.{Bits32, Bits64}
use Rattle.bpf_insn.specs.declared.instruction.SignExtension.{SignExtension}
use Rattle.bpf_insn.specs.declared.instruction.SignExtension.TheVariants.{Bits8To32, Bits16To32, Bits8To64, Bits16To64, Bits32To64}
use Rattle.bpf_insn.specs.declared.instruction.ByteOrder.{ByteOrder}
use Rattle.bpf_insn.specs.declared.instruction.ByteOrder.TheVariants.{LittleEndian, BigEndian, Swapped}
use Rattle.bpf_insn.specs.declared.instruction.SwapWidth.{SwapWidth}
use Rattle.bpf_insn.specs.declared.instruction.SwapWidth.TheVariants as swap_width
use Rattle.bpf_insn.specs.declared.instruction.Condition.{Condition}
use Rattle.bpf_insn.specs.declared.instruction.Condition.TheVariants.{Equal, Greater, GreaterOrEqual, SharesBit, NotEqual, SignedGreater, SignedGreaterOrEqual, Less, LessOrEqual, SignedLess, SignedLessOrEqual}
use Rattle.bpf_insn.specs.declared.instruction.LoadFormat.{LoadFormat}
use Rattle.bpf_insn.specs.declared.instruction.LoadFormat.TheVariants.{Byte, HalfWord, Word, DoubleWord, SignedByte, SignedHalfWord, SignedWord}

-- the width of an instruction's operands (section 3.3: 32 bits in the classes ALU and JMP32, 64 in ALU64 and JMP)
abbrev pub operand_bits : Width → Bits
operand_bits Bits32 = w32
operand_bits Bits64 = w64

-- the low w bits of a number
abbrev pub low_bits : Bits → ℕ → ℕ
low_bits w x = x % 2 ^ bits w

-- The result of an operation on w bits (section 4.1), for operands below 2^w. Sums, differences, products and left shifts keep their low bits.
-- Division by zero results in 0, and the remainder is then the first operand. Signed division rounds the quotient towards zero, and the remainder
-- has the first operand's sign. A shift amount keeps its low 5 or 6 bits, so it's taken modulo w.
abbrev pub operation_on : Operation → Bits → ℕ → ℕ → ℕ
operation_on Add w x y = (x + y) % 2 ^ bits w
operation_on Subtract w x y = (x + (2 ^ bits w - y)) % 2 ^ bits w
operation_on Multiply w x y = (x * y) % 2 ^ bits w
operation_on Divide w x y = if y == 0 then 0 else x / y
operation_on SignedDivide w x y = if y == 0 then 0 else cast_unsigned w (int_div (cast_signed w x) (cast_signed w y))
operation_on Or w x y = bit_or x y
operation_on And w x y = bit_and x y
operation_on ShiftLeft w x y = (x * 2 ^ (y % bits w)) % 2 ^ bits w
operation_on ShiftRight w x y = x / 2 ^ (y % bits w)
operation_on Modulo w x y = if y == 0 then x else x % y
operation_on SignedModulo w x y = if y == 0 then x else cast_unsigned w (int_rem (cast_signed w x) (cast_signed w y))
operation_on ExclusiveOr w x y = bit_xor x y
operation_on Move w x y = y
operation_on ArithmeticShiftRight w x y = cast_unsigned w (int_shr (cast_signed w x) (y % bits w))

-- The result of an operation, with the destination as the first operand and the source as the second (section 4.1). With 32 bits, it operates on
-- the low halves, and the upper half of the result is zero.
abbrev pub result_of : Operation → Width → ℕ → ℕ → ℕ
result_of operation width x y = operation_on operation (operand_bits width) (low_bits (operand_bits width) x) (low_bits (operand_bits width) y)

-- the number of the given width whose sum with x is 0 (section 4.1: NEG)
abbrev pub negate : Width → ℕ → ℕ
negate width x = (2 ^ bits (operand_bits width) - low_bits (operand_bits width) x) % 2 ^ bits (operand_bits width)

-- the low bits of x, `from` of them, as a signed number in `to` bits
abbrev pub sign_extension : Bits → Bits → ℕ → ℕ
sign_extension from to x = cast_unsigned to (cast_signed from (low_bits from x))

-- a move with sign extension (section 4.1: MOVSX)
abbrev pub extension_of : SignExtension → ℕ → ℕ
extension_of Bits8To32 x = sign_extension w8 w32 x
extension_of Bits16To32 x = sign_extension w16 w32 x
extension_of Bits8To64 x = sign_extension w8 w64 x
extension_of Bits16To64 x = sign_extension w16 w64 x
extension_of Bits32To64 x = sign_extension w32 w64 x

-- the number of bits that a byte swap takes (section 4.2: the immediate is 16, 32 or 64)
abbrev pub swap_bits : SwapWidth → Bits
swap_bits swap_width.Bits16 = w16
swap_bits swap_width.Bits32 = w32
swap_bits swap_width.Bits64 = w64

-- The low bits of x in another byte order, with zeros above them (section 4.2). The machine is little-endian, so the swap to little-endian leaves
-- them unchanged, and the swap to big-endian reverses them.
abbrev pub byte_swap : ByteOrder → SwapWidth → ℕ → ℕ
byte_swap LittleEndian width x = low_bits (swap_bits width) x
byte_swap BigEndian width x = swap_bytes (swap_bits width) (low_bits (swap_bits width) x)
byte_swap Swapped width x = swap_bytes (swap_bits width) (low_bits (swap_bits width) x)

-- whether numbers of w bits meet a condition (section 4.3)
abbrev pub condition_holds_on : Condition → Bits → ℕ → ℕ → Bool
condition_holds_on Equal w x y = x == y
condition_holds_on Greater w x y = nat_lt y x
condition_holds_on GreaterOrEqual w x y = nat_le y x
condition_holds_on SharesBit w x y = not (bit_and x y == 0)
condition_holds_on NotEqual w x y = not (x == y)
condition_holds_on SignedGreater w x y = int_lt (cast_signed w y) (cast_signed w x)
condition_holds_on SignedGreaterOrEqual w x y = int_le (cast_signed w y) (cast_signed w x)
condition_holds_on Less w x y = nat_lt x y
condition_holds_on LessOrEqual w x y = nat_le x y
condition_holds_on SignedLess w x y = int_lt (cast_signed w x) (cast_signed w y)
condition_holds_on SignedLessOrEqual w x y = int_le (cast_signed w x) (cast_signed w y)

-- whether a conditional jump is taken, with the destination as the first operand and the source as the second
abbrev pub condition_holds : Condition → Width → ℕ → ℕ → Bool
condition_holds condition width x y = condition_holds_on condition (operand_bits width) (low_bits (operand_bits width) x) (low_bits (operand_bits width) y)

-- an immediate as a 64-bit operand, sign-extended (section 4.1)
abbrev pub immediate_operand : ℤ → ℕ
immediate_operand immediate = cast_unsigned w64 immediate

-- the number of a wide load: the next word's immediate above the word's own, both unsigned (section 5.4)
abbrev pub wide_number : ℤ → ℤ → ℕ
wide_number immediate next_immediate = cast_unsigned w32 next_immediate * 2 ^ bits w32 + cast_unsigned w32 immediate

-- a register's number after a load, from the number in the bytes read (sections 5.1 and 5.2)
abbrev pub load_extension : LoadFormat → ℕ → ℕ
load_extension Byte number = number
load_extension HalfWord number = number
load_extension Word number = number
load_extension DoubleWord number = number
load_extension SignedByte number = sign_extension w8 w64 number
load_extension SignedHalfWord number = sign_extension w16 w64 number
load_extension SignedWord number = sign_extension w32 w64 number
