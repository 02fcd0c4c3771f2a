-- The operands of a filter's tests in its instructions.
use Rattle.std.proofs.Common.{◌≡◌, ℕ, ◌+◌, ◌*◌, ◌/◌, ◌%◌, ◌<◌, ◌^◌, ℤ, pos, negsuc, Bool, true, false, not, List, [], ◌∷◌, length, map}
use Rattle.std.proofs.Common.{Some, refl, sym, ap, ◌∙◌, arith}
use Rattle.std.specs.Prelude.{FitsSigned, int_le, int_lt, nat_le, nat_lt, slice_index}
use Rattle.std.specs.Int.{bytes_low_first, cast_signed, cast_unsigned, w32, w64}
use Rattle.std.specs.Option.{option_map}
use Rattle.std.proofs.lemmas.Bool.Decides.{nat_tests}
use Rattle.std.proofs.lemmas.Int.{of_z-to_z}
use Rattle.std.proofs.Math.Facts.{sfits_to_z}
use lib.Signed.{mag}
use Rattle.bpf_insn.specs.Arithmetic.{immediate_operand, condition_holds, low_bits, wide_number}
use Rattle.bpf_insn.specs.Frame.{Byte, number_of}
use Rattle.bpf_insn.specs.declared.instruction.Width.TheVariants.{Bits64}
use Rattle.cql2.specs.declared.filter.Comparison.{Comparison}
use Rattle.cql2.specs.declared.filter.Comparison.TheVariants.{Equal, NotEqual, Less, LessOrEqual, Greater, GreaterOrEqual}
use Rattle.cql2_code.specs.Layout.{opposite}
use Rattle.cql2_code.specs.Question.{bytes_value, condition_of}

-- a wide load of a number's two halves loads the number
pub wide_is : (number : ℕ) → number < 2 ^ 64 → wide_number (cast_signed w32 (number % 2 ^ 32)) (cast_signed w32 (number / 2 ^ 32)) ≡ number
wide_is number fits =
    let low = of_z-to_z w32 (number % 2 ^ 32) (omega arith) in
    let high = of_z-to_z w32 (number / 2 ^ 32) (omega arith) in
    omega (arith, low, high)

-- a signed number as a 64-bit operand fits into 64 bits
pub operand_fits : (number : ℤ) → FitsSigned w64 number → immediate_operand number < 2 ^ 64
operand_fits (pos n) fits = let h = fits.sfits in omega arith
operand_fits (negsuc n) fits = let h = fits.sfits in omega arith

-- written bytes are loaded as their number
pub number_of-bytes : (bytes : List ℕ) → number_of (map Byte bytes) ≡ Some (bytes_value bytes)
number_of-bytes [] = refl
number_of-bytes (byte ∷ bytes) = ap (option_map (λ rest. byte + 256 * rest)) (number_of-bytes bytes)

-- the low half of a sign-extended number
low_of_signed : (z : ℤ) → mag z < 2 ^ 31 → immediate_operand z % 2 ^ 32 ≡ cast_unsigned w32 z
low_of_signed (pos n) small = omega arith
low_of_signed (negsuc n) small = omega arith

low_half : (n : ℕ) → n < 2 ^ 32 → immediate_operand (cast_signed w32 n) % 2 ^ 32 ≡ n
low_half n fits = low_of_signed (cast_signed w32 n) (sfits_to_z {w = w32} (record { fits = fits })).sfits ∙ of_z-to_z w32 n fits

-- the low bytes of a number are those of its low half
low_bytes : (n : ℕ) → bytes_low_first 0 4 n ≡ bytes_low_first 0 4 (n % 2 ^ 32)
low_bytes n =
    let first : n % 256 ≡ n % 2 ^ 32 % 256 = omega arith in
    let second : n / 256 % 256 ≡ n % 2 ^ 32 / 256 % 256 = omega arith in
    let third : n / 65536 % 256 ≡ n % 2 ^ 32 / 65536 % 256 = omega arith in
    let fourth : n / 16777216 % 256 ≡ n % 2 ^ 32 / 16777216 % 256 = omega arith in
    cc

-- the bytes of a word
abbrev HasBytes : List ℕ → Type 0
HasBytes bytes = (i : ℕ) → slice_index bytes i < 2 ^ 8

value_fits : (a b c d : ℕ) → HasBytes (a ∷ b ∷ c ∷ d ∷ []) → bytes_value (a ∷ b ∷ c ∷ d ∷ []) < 2 ^ 32
value_fits a b c d fits =
    let one = fits 0 in
    let two = fits 1 in
    let three = fits 2 in
    let four = fits 3 in
    omega arith

value_bytes : (a b c d : ℕ) → HasBytes (a ∷ b ∷ c ∷ d ∷ [])
    → bytes_low_first 0 4 (bytes_value (a ∷ b ∷ c ∷ d ∷ [])) ≡ a ∷ b ∷ c ∷ d ∷ []
value_bytes a b c d fits =
    let one = fits 0 in
    let two = fits 1 in
    let three = fits 2 in
    let four = fits 3 in
    let n : ℕ = a + 256 * (b + 256 * (c + 256 * (d + 256 * 0))) in
    let first : n % 256 ≡ a = omega arith in
    let second : n / 256 % 256 ≡ b = omega arith in
    let third : n / 65536 % 256 ≡ c = omega arith in
    let fourth : n / 16777216 % 256 ≡ d = omega arith in
    cc

-- four bytes are stored as a word
pub word_bytes : (bytes : List ℕ) → length bytes ≡ 4 → ((i : ℕ) → slice_index bytes i < 2 ^ 8)
    → bytes_low_first 0 4 (immediate_operand (cast_signed w32 (bytes_value bytes))) ≡ bytes
word_bytes [] long fits = absurd (omega arith)
word_bytes (a ∷ []) long fits = absurd (omega arith)
word_bytes (a ∷ b ∷ []) long fits = absurd (omega arith)
word_bytes (a ∷ b ∷ c ∷ []) long fits = absurd (omega arith)
word_bytes (a ∷ b ∷ c ∷ d ∷ e ∷ rest) long fits = absurd (omega arith)
word_bytes (a ∷ b ∷ c ∷ d ∷ []) long fits =
    let value = bytes_value (a ∷ b ∷ c ∷ d ∷ []) in
    low_bytes (immediate_operand (cast_signed w32 value)) ∙ ap (bytes_low_first 0 4) (low_half value (value_fits a b c d fits))
    ∙ value_bytes a b c d fits

-- comparisons and their opposites

pub not_not : (b : Bool) → not (not b) ≡ b
not_not true = refl
not_not false = refl

less_is_not : (m n : ℕ) → nat_lt m n ≡ not (nat_le n m)
less_is_not m n = grind (arith, nat_tests)

pub int_less : (x y : ℤ) → int_lt x y ≡ not (int_le y x)
int_less (pos m) (pos n) = less_is_not m n
int_less (pos m) (negsuc n) = refl
int_less (negsuc m) (pos n) = refl
int_less (negsuc m) (negsuc n) = less_is_not n m

pub int_at_most : (x y : ℤ) → int_le x y ≡ not (int_lt y x)
int_at_most x y = sym (ap not (int_less y x) ∙ not_not (int_le x y))

-- a 64-bit number as a signed one
abbrev signed : ℕ → ℤ
signed x = cast_signed w64 (low_bits w64 x)

pub opposite_is_not : (comparison : Comparison) (x y : ℕ)
    → condition_holds (condition_of (opposite comparison)) Bits64 x y ≡ not (condition_holds (condition_of comparison) Bits64 x y)
opposite_is_not Equal x y = refl
opposite_is_not NotEqual x y = sym (not_not _)
opposite_is_not Less x y = int_at_most (signed y) (signed x)
opposite_is_not LessOrEqual x y = int_less (signed y) (signed x)
opposite_is_not Greater x y = int_at_most (signed x) (signed y)
opposite_is_not GreaterOrEqual x y = int_less (signed x) (signed y)
