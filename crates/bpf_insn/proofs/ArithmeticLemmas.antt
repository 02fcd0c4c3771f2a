-- Conversions of numbers of 32 and 64 bits to signed 64-bit numbers, and back.
use Rattle.std.proofs.Common.{◌≡◌, ℕ, zero, suc, ◌/◌, ◌%◌, ◌^◌, ◌≤◌, ◌<◌, ℤ, pos, negsuc, arith}
use Rattle.std.proofs.Math.Nat.{mod-lt, mod-mod, div-le_self, le_trans}
use Rattle.std.proofs.Math.IntN.{neg_ℤ}
use Rattle.std.specs.Int.{w64, cast_signed, cast_unsigned}
use Rattle.std.specs.Int.RustNames.{int_div, int_rem}
use Rattle.std.proofs.lemmas.Int.{of_z-to_z}
use Rattle.std.proofs.Math.Facts.{sfits_to_z}
use Rattle.std.proofs.Math.Pow.{pow_pos, mod-mod-pow}
use lib.Signed.{mag, mag_rem}
use mir.Val.{bits, hbits}
use Rattle.bpf_insn.specs.Arithmetic.{operand_bits, low_bits}
use Rattle.bpf_insn.specs.declared.instruction.Width.{Width}
use Rattle.bpf_insn.specs.declared.instruction.Width.TheVariants.{Bits32, Bits64}

-- The low bits of a signed number are its two's complement, if it lies from -2^(w-1) to 2^(w-1). (The quotient of the least number and -1 is
-- 2^(w-1).)
low_bits-signed : (width : Width) (z : ℤ) → mag z ≤ 2 ^ hbits (operand_bits width)
    → low_bits (operand_bits width) (cast_unsigned w64 z) ≡ cast_unsigned (operand_bits width) z
low_bits-signed Bits32 (pos n) h = omega arith
low_bits-signed Bits32 (negsuc n) h = omega arith
low_bits-signed Bits64 (pos n) h = omega arith
low_bits-signed Bits64 (negsuc n) h = omega arith

-- the low bits, read as a signed number
mag-signed : (width : Width) (x : ℕ) → mag (cast_signed (operand_bits width) (low_bits (operand_bits width) x)) < 2 ^ hbits
    (operand_bits width)
mag-signed width x = (sfits_to_z {w = operand_bits width} (record { fits = mod-lt x (pow_pos (bits (operand_bits width))) })).sfits

mag-neg_le : (n : ℕ) → mag (neg_ℤ (pos n)) ≤ n
mag-neg_le zero = omega arith
mag-neg_le (suc n) = omega arith

mag-quotient : (a d : ℤ) → mag (int_div a d) ≤ suc (mag a)
mag-quotient (pos a) (pos d) = let e = div-le_self a d in omega arith
mag-quotient (pos a) (negsuc d) = let e = div-le_self a (suc d) in let f = mag-neg_le (a / suc d) in omega arith
mag-quotient (negsuc a) (pos d) = let e = div-le_self (suc a) d in let f = mag-neg_le (suc a / d) in omega arith
mag-quotient (negsuc a) (negsuc d) = div-le_self (suc a) (suc d)

quotient_within : (width : Width) (x : ℕ) (d : ℤ) → mag (int_div (cast_signed (operand_bits width) (low_bits (operand_bits width) x)) d) ≤ 2
    ^ hbits (operand_bits width)
quotient_within width x d =
    let below = mag-signed width x in
    let quotient = mag-quotient (cast_signed (operand_bits width) (low_bits (operand_bits width) x)) d in
    omega arith

half_le : (width : Width) → 2 ^ hbits (operand_bits width) ≤ 2 ^ 63
half_le Bits32 = omega arith
half_le Bits64 = omega arith

unsigned_fits : (z : ℤ) → mag z ≤ 2 ^ 63 → cast_unsigned w64 z < 2 ^ 64
unsigned_fits (pos n) h = omega arith
unsigned_fits (negsuc n) h = omega arith

-- The remainder of low bits as signed numbers, computed on signed 64-bit numbers, and its bits.
pub remainder_bits : (width : Width) (x : ℕ) (d : ℤ) → let r =
    int_rem (cast_signed (operand_bits width) (low_bits (operand_bits width) x)) d in
    low_bits (operand_bits width) (cast_unsigned w64 r) ≡ cast_unsigned (operand_bits width) r
remainder_bits width x d =
    let a = cast_signed (operand_bits width) (low_bits (operand_bits width) x) in
    let below : mag a < 2 ^ hbits (operand_bits width) = mag-signed width x in
    let remainder = mag_rem a d in
    low_bits-signed width (int_rem a d) (omega arith)

-- The same for the quotient. It's wrapped to 64 bits, where the quotient of the least number and -1 becomes the least number.
pub quotient_bits : (width : Width) (x : ℕ) (d : ℤ) → let q =
    int_div (cast_signed (operand_bits width) (low_bits (operand_bits width) x)) d in
    low_bits (operand_bits width) (cast_unsigned w64 (cast_signed w64 (cast_unsigned w64 q))) ≡ cast_unsigned (operand_bits width) q
quotient_bits width x d =
    let a = cast_signed (operand_bits width) (low_bits (operand_bits width) x) in
    let within = quotient_within width x d in
    let fits : cast_unsigned w64 (int_div a d) < 2 ^ 64 = unsigned_fits (int_div a d) (le_trans within (half_le width)) in
    rw (of_z-to_z w64 (cast_unsigned w64 (int_div a d)) fits) (low_bits-signed width (int_div a d) within)

-- The low bits of a number wrapped to 64 bits are its own low bits.
pub low_bits-wrapped : (width : Width) (n : ℕ) → low_bits (operand_bits width) (n % 2 ^ 64) ≡ low_bits (operand_bits width) n
low_bits-wrapped Bits32 n = mod-mod-pow n 32 32
low_bits-wrapped Bits64 n = mod-mod n (2 ^ 64)
