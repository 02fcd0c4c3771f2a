-- Signed numbers in registers. Sums, differences, products and comparisons on 64 bits are exact as long as the numbers fit.
use Rattle.std.proofs.Common.{◌≡◌, ℕ, ℤ, Bool, ap, ◌∙◌}
use Rattle.std.specs.Prelude.{FitsSigned, ◌+ℤ◌, ◌-ℤ◌, ◌*ℤ◌, int_lt, int_le}
use Rattle.std.specs.Int.{w64, cast_signed}
use Rattle.bpf_insn.specs.Arithmetic.{condition_holds, immediate_operand, low_bits, result_of}
use Rattle.bpf_insn.specs.declared.instruction.Condition.TheVariants.{SignedGreater, SignedGreaterOrEqual, SignedLess}
use Rattle.bpf_insn.specs.declared.instruction.Operation.TheVariants.{Add, Multiply, Subtract}
use Rattle.bpf_insn.specs.declared.instruction.Width.TheVariants.{Bits64}
use Rattle.cql2_code.proofs.WordLemmas.{add_is, multiply_is, read_first, read_second, subtract_is, word_is, written}

-- the 64 bits of a signed number
abbrev pub word : ℤ → ℕ
word number = immediate_operand number

pub signed_word : (number : ℤ) → FitsSigned w64 number → cast_signed w64 (word number) ≡ number
signed_word number fits = (written number fits).is

-- two numbers that fit into 64 bits
pub record Fit (a b : ℤ) : Type 0 where
  pub first : FitsSigned w64 a
  pub second : FitsSigned w64 b

pub adds : (a b : ℤ) → Fit a b → FitsSigned w64 (a +ℤ b) → result_of Add Bits64 (word a) (word b) ≡ word (a +ℤ b)
adds a b fit fits = word_is (add_is (written a fit.first) (written b fit.second) fits)

pub subtracts : (a b : ℤ) → Fit a b → FitsSigned w64 (a -ℤ b) → result_of Subtract Bits64 (word a) (word b) ≡ word (a -ℤ b)
subtracts a b fit fits = word_is (subtract_is (written a fit.first) (written b fit.second) fits)

pub multiplies : (a b : ℤ) → Fit a b → FitsSigned w64 (a *ℤ b) → result_of Multiply Bits64 (word a) (word b) ≡ word (a *ℤ b)
multiplies a b fit fits = word_is (multiply_is (written a fit.first) (written b fit.second) fits)

-- signed comparisons
compares : (a b : ℤ) → Fit a b → (is : ℤ → ℤ → Bool)
    → is (cast_signed w64 (low_bits w64 (word a))) (cast_signed w64 (low_bits w64 (word b))) ≡ is a b
compares a b fit is =
    ap (λ (x : ℤ). is x (cast_signed w64 (low_bits w64 (word b)))) (read_first (written a fit.first) (written b fit.second))
    ∙ ap (is a) (read_second (written a fit.first) (written b fit.second))

pub compares_less : (a b : ℤ) → Fit a b → condition_holds SignedLess Bits64 (word a) (word b) ≡ int_lt a b
compares_less a b fit = compares a b fit (λ (x : ℤ) (y : ℤ). int_lt x y)

pub compares_greater : (a b : ℤ) → Fit a b → condition_holds SignedGreater Bits64 (word a) (word b) ≡ int_lt b a
compares_greater a b fit = compares a b fit (λ (x : ℤ) (y : ℤ). int_lt y x)

pub compares_greater_or_equal : (a b : ℤ) → Fit a b → condition_holds SignedGreaterOrEqual Bits64 (word a) (word b) ≡ int_le b a
compares_greater_or_equal a b fit = compares a b fit (λ (x : ℤ) (y : ℤ). int_le y x)
