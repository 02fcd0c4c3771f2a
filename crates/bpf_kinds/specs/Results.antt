-- Results of instructions on intervals. Each one bounds the result of the arithmetic of the same name (RFC 9669, sections 4 and 5). The choice of
-- these bounds is this project's own. If every operand is one number, the result is exact.
use Rattle.std.specs.Prelude.{ℕ, ℤ, ◌+◌, ◌-◌, ◌*◌, ◌/◌, ◌%◌, ◌^◌, ◌&&◌, ◌||◌, nat_lt, nat_le, min, max, if◌then◌else◌}
use Rattle.std.specs.Int.{w8, w16, w32, w64, leading_zeros}
use Rattle.std.specs.Int.{Width as Bits}
use mir.Val.{bits}
use Rattle.bpf_insn.specs.Arithmetic as arithmetic
use Rattle.bpf_insn.specs.Arithmetic.{operand_bits, swap_bits}
use Rattle.bpf_insn.specs.declared.instruction.Operation.{Operation}
use Rattle.bpf_insn.specs.declared.instruction.Operation.TheVariants.{Add, Subtract, Multiply, Divide, SignedDivide, Or, And, ShiftLeft, ShiftRight, Modulo, SignedModulo, ExclusiveOr, Move, ArithmeticShiftRight}
use Rattle.bpf_insn.specs.declared.instruction.Width.{Width}
use Rattle.bpf_insn.specs.declared.instruction.SignExtension.{SignExtension}
use Rattle.bpf_insn.specs.declared.instruction.SignExtension.TheVariants.{Bits8To32, Bits16To32, Bits8To64, Bits16To64, Bits32To64}
use Rattle.bpf_insn.specs.declared.instruction.ByteOrder.{ByteOrder}
use Rattle.bpf_insn.specs.declared.instruction.ByteOrder.TheVariants.{LittleEndian, BigEndian, Swapped}
use Rattle.bpf_insn.specs.declared.instruction.SwapWidth.{SwapWidth}
use Rattle.bpf_insn.specs.declared.instruction.LoadFormat.{LoadFormat}
use Rattle.bpf_insn.specs.declared.instruction.LoadFormat.TheVariants.{Byte, HalfWord, Word, DoubleWord, SignedByte, SignedHalfWord, SignedWord}
use Rattle.bpf_kinds.specs.Interval.{between, single, is_single, full, cut}
use Rattle.bpf_kinds.specs.declared.interval.Interval.{Interval}

-- the greatest number with the same number of binary digits as one below 2^64
abbrev pub greatest_of_length : ℕ → ℕ
greatest_of_length n = 2 ^ (64 - leading_zeros w64 n) - 1

-- sums: from end to end if either none or all exceed the width
abbrev pub sum_of : Bits → Interval → Interval → Interval
sum_of w x y =
    if nat_lt (x.high + y.high) (2 ^ bits w) then between (x.low + y.low) (x.high + y.high)
    else (if nat_le (2 ^ bits w) (x.low + y.low) then between (x.low + y.low - 2 ^ bits w) (x.high + y.high - 2 ^ bits w) else full w)

-- differences: from end to end if either none or all are negative
abbrev pub difference_of : Bits → Interval → Interval → Interval
difference_of w x y =
    if nat_le y.high x.low then between (x.low - y.high) (x.high - y.low)
    else (if nat_lt x.high y.low then between (x.low + 2 ^ bits w - y.high) (x.high + 2 ^ bits w - y.low) else full w)

-- products: from end to end if none exceeds the width
abbrev pub product_of : Bits → Interval → Interval → Interval
product_of w x y = if nat_lt (x.high * y.high) (2 ^ bits w) then between (x.low * y.low) (x.high * y.high) else full w

-- quotients; if a divisor may be zero, the quotient may be 0
abbrev pub quotient_of : Interval → Interval → Interval
quotient_of x y = if nat_le 1 y.low then between (x.low / y.high) (x.high / y.low) else between 0 x.high

-- remainders are below their divisor; if it may be zero, the remainder may be the first operand
abbrev pub remainder_of : Interval → Interval → Interval
remainder_of x y = if nat_le 1 y.low then between 0 (min x.high (y.high - 1)) else between 0 x.high

-- Shifts: the amount is known if the second operand is one number, and is then its low 5 or 6 bits. A shift to the left by a known amount is a
-- product with a power of two.
abbrev pub left_shift_of : Bits → Interval → Interval → Interval
left_shift_of w x y = if is_single y then product_of w x (single (2 ^ (y.low % bits w))) else full w

-- shifts to the right that fill with zeros
abbrev pub right_shift_of : Bits → Interval → Interval → Interval
right_shift_of w x y =
    if is_single y then between (x.low / 2 ^ (y.low % bits w)) (x.high / 2 ^ (y.low % bits w)) else between 0 x.high

-- shifts to the right that fill with the sign: from end to end if the sign is the same for all numbers
abbrev pub arithmetic_shift_of : Bits → Interval → Interval → Interval
arithmetic_shift_of w x y =
    if is_single y && (nat_lt x.high (2 ^ (bits w - 1)) || nat_le (2 ^ (bits w - 1)) x.low)
    then between (arithmetic.operation_on ArithmeticShiftRight w x.low y.low) (arithmetic.operation_on ArithmeticShiftRight w x.high y.low)
    else full w

-- an operation on operands of w bits, at least one of which is more than one number
abbrev pub operation_on : Operation → Bits → Interval → Interval → Interval
operation_on Add w x y = sum_of w x y
operation_on Subtract w x y = difference_of w x y
operation_on Multiply w x y = product_of w x y
operation_on Divide w x y = quotient_of x y
operation_on SignedDivide w x y = full w
operation_on Or w x y = between (max x.low y.low) (greatest_of_length (max x.high y.high))
operation_on And w x y = between 0 (min x.high y.high)
operation_on ShiftLeft w x y = left_shift_of w x y
operation_on ShiftRight w x y = right_shift_of w x y
operation_on Modulo w x y = remainder_of x y
operation_on SignedModulo w x y = full w
operation_on ExclusiveOr w x y = between 0 (greatest_of_length (max x.high y.high))
operation_on Move w x y = y
operation_on ArithmeticShiftRight w x y = arithmetic_shift_of w x y

-- an operation on operands of w bits
abbrev pub result_on : Operation → Bits → Interval → Interval → Interval
result_on operation w x y =
    if is_single x && is_single y then single (arithmetic.operation_on operation w x.low y.low) else operation_on operation w x y

-- an operation, with the destination as the first operand and the source as the second; with 32 bits it operates on the low halves
abbrev pub alu : Operation → Width → Interval → Interval → Interval
alu operation width x y = result_on operation (operand_bits width) (cut (operand_bits width) x) (cut (operand_bits width) y)

-- the negative of an operand, known only for one number
abbrev pub negate_on : Width → Interval → Interval
negate_on width x = if is_single x then single (arithmetic.negate width x.low) else full (operand_bits width)

-- the negative; with 32 bits, that of the low half
abbrev pub negate : Width → Interval → Interval
negate width x = negate_on width (cut (operand_bits width) x)

-- the number of bits that a move with sign extension takes (section 4.1: MOVSX)
abbrev pub source_bits : SignExtension → Bits
source_bits Bits8To32 = w8
source_bits Bits16To32 = w16
source_bits Bits8To64 = w8
source_bits Bits16To64 = w16
source_bits Bits32To64 = w32

-- and the number of bits to which it extends them
abbrev pub target_bits : SignExtension → Bits
target_bits Bits8To32 = w32
target_bits Bits16To32 = w32
target_bits Bits8To64 = w64
target_bits Bits16To64 = w64
target_bits Bits32To64 = w64

-- low bits, sign-extended: the low bits themselves, if the sign is 0 for all of them
abbrev pub extend_low : Bits → Bits → Interval → Interval
extend_low from to low = if nat_lt low.high (2 ^ (bits from - 1)) then low else full to

-- a move with sign extension, of numbers of the width that it extends to
abbrev pub extend_on : SignExtension → Interval → Interval
extend_on extension x =
    if is_single x
    then single (arithmetic.extension_of extension x.low)
    else extend_low (source_bits extension) (target_bits extension) (cut (source_bits extension) x)

-- a move with sign extension
abbrev pub extend : SignExtension → Interval → Interval
extend extension x = extend_on extension (cut (target_bits extension) x)

-- the low bytes in the opposite order, known only for one number
abbrev pub reversal : ByteOrder → SwapWidth → Interval → Interval
reversal order width x = if is_single x then single (arithmetic.byte_swap order width x.low) else full (swap_bits width)

-- the low bytes in another order (section 4.2), from the whole operand
abbrev pub byte_swap : ByteOrder → SwapWidth → Interval → Interval
byte_swap LittleEndian width x = cut (swap_bits width) x
byte_swap BigEndian width x = reversal BigEndian width x
byte_swap Swapped width x = reversal Swapped width x

-- the result of a load of any bytes: all numbers of its width, or all of 64 bits if it extends the sign
abbrev pub load : LoadFormat → Interval
load Byte = full w8
load HalfWord = full w16
load Word = full w32
load DoubleWord = full w64
load SignedByte = full w64
load SignedHalfWord = full w64
load SignedWord = full w64

-- the number of a wide load (section 5.4)
abbrev pub wide_number : ℤ → ℤ → Interval
wide_number immediate next_immediate = single (arithmetic.wide_number immediate next_immediate)

-- an immediate as a 64-bit operand
abbrev pub immediate_operand : ℤ → Interval
immediate_operand immediate = single (arithmetic.immediate_operand immediate)
