-- The definitions of arithmetic on worked examples: their results are computed.
use Rattle.std.proofs.Common.{◌≡◌, pos, negsuc, true, false, refl}
use Rattle.bpf_insn.specs.Arithmetic.{result_of, negate, extension_of, byte_swap, condition_holds, wide_number, load_extension}
use Rattle.bpf_insn.specs.declared.instruction.Operation.TheVariants.{Subtract, Multiply, Divide, SignedDivide, ShiftLeft, ShiftRight}
use Rattle.bpf_insn.specs.declared.instruction.Operation.TheVariants.{Modulo, SignedModulo, Move, ArithmeticShiftRight}
use Rattle.bpf_insn.specs.declared.instruction.Width.TheVariants.{Bits32, Bits64}
use Rattle.bpf_insn.specs.declared.instruction.SignExtension.TheVariants.{Bits8To32, Bits16To64}
use Rattle.bpf_insn.specs.declared.instruction.ByteOrder.TheVariants.{LittleEndian, BigEndian, Swapped}
use Rattle.bpf_insn.specs.declared.instruction.SwapWidth.TheVariants as swap_width
use Rattle.bpf_insn.specs.declared.instruction.Condition.TheVariants.{Greater, SharesBit, SignedGreater}
use Rattle.bpf_insn.specs.declared.instruction.LoadFormat.TheVariants.{Byte, SignedByte}

-- 3 - 5 is -2, with 32 bits too
pub below_zero : result_of Subtract Bits64 3 5 ≡ 0xffff_ffff_ffff_fffe
below_zero = refl

pub below_zero_of_32 : result_of Subtract Bits32 3 5 ≡ 0xffff_fffe
below_zero_of_32 = refl

-- a product keeps its low half
pub product_wraps : result_of Multiply Bits32 0x1_0001 0x1_0001 ≡ 0x2_0001
product_wraps = refl

-- division by zero, with 32 bits and a nonzero upper half
pub by_zero : result_of Divide Bits32 7 0x1_0000_0000 ≡ 0
by_zero = refl

pub remainder_by_zero : result_of Modulo Bits32 0x5_0000_0007 0 ≡ 7
remainder_by_zero = refl

-- -13 by 3: the quotient is rounded towards zero, to -4, and the remainder is -1
pub signed_quotient : result_of SignedDivide Bits64 0xffff_ffff_ffff_fff3 3 ≡ 0xffff_ffff_ffff_fffc
signed_quotient = refl

pub signed_remainder : result_of SignedModulo Bits32 0xffff_fff3 3 ≡ 0xffff_ffff
signed_remainder = refl

-- the least number by -1
pub least_by_minus_one : result_of SignedDivide Bits32 0x8000_0000 0xffff_ffff ≡ 0x8000_0000
least_by_minus_one = refl

pub least_by_minus_one_leaves : result_of SignedModulo Bits64 0x8000_0000_0000_0000 0xffff_ffff_ffff_ffff ≡ 0
least_by_minus_one_leaves = refl

-- shift amounts are taken modulo the width
pub left : result_of ShiftLeft Bits32 3 33 ≡ 6
left = refl

pub right : result_of ShiftRight Bits64 0x8000_0000_0000_0000 127 ≡ 1
right = refl

pub with_sign : result_of ArithmeticShiftRight Bits32 0x8000_0000 4 ≡ 0xf800_0000
with_sign = refl

-- a move of 32 bits drops the upper half
pub low_half : result_of Move Bits32 1 0x1234_5678_9abc_def0 ≡ 0x9abc_def0
low_half = refl

pub negation_of_least : negate Bits64 0x8000_0000_0000_0000 ≡ 0x8000_0000_0000_0000
negation_of_least = refl

pub negation_of_one : negate Bits32 1 ≡ 0xffff_ffff
negation_of_one = refl

pub byte_to_32 : extension_of Bits8To32 0x1280 ≡ 0xffff_ff80
byte_to_32 = refl

pub half_word_to_64 : extension_of Bits16To64 0x1_7fff ≡ 0x7fff
half_word_to_64 = refl

pub low_bytes_unchanged : byte_swap LittleEndian swap_width.Bits16 0x1_0203 ≡ 0x0203
low_bytes_unchanged = refl

pub reversed : byte_swap BigEndian swap_width.Bits32 0x9_0102_0304 ≡ 0x0403_0201
reversed = refl

pub swapped : byte_swap Swapped swap_width.Bits64 0x0102_0304_0506_0708 ≡ 0x0807_0605_0403_0201
swapped = refl

-- -1 and 1: greater unsigned, less signed, and with a bit in common
pub greater : condition_holds Greater Bits32 0xffff_ffff 1 ≡ true
greater = refl

pub not_signed_greater : condition_holds SignedGreater Bits32 0xffff_ffff 1 ≡ false
not_signed_greater = refl

pub shares_bit : condition_holds SharesBit Bits64 0xffff_ffff_ffff_ffff 1 ≡ true
shares_bit = refl

pub wide : wide_number (negsuc 0) (pos 2) ≡ 0x2_ffff_ffff
wide = refl

pub zero_extended : load_extension Byte 0x80 ≡ 0x80
zero_extended = refl

pub sign_extended : load_extension SignedByte 0x80 ≡ 0xffff_ffff_ffff_ff80
sign_extended = refl
