-- Arithmetic in 64 bits is exact as long as the results fit: on words that are integers in two's complement, the operations of RFC 9669, section
-- 4.1, are those on the integers.
use Rattle.std.proofs.Common.{◌≡◌, ℕ, zero, suc, ◌+◌, ◌-◌, ◌*◌, ◌/◌, ◌%◌, ◌<◌, ◌≤◌, ◌^◌, ◌==◌, ℤ, pos, negsuc, neg_ℤ, ◌+ℤ◌, ◌-ℤ◌, ◌*ℤ◌, Bool, true, false, not}
use Rattle.std.proofs.Common.{if◌then◌else◌, refl, sym, ap, ◌∙◌, subst, arith}
use Rattle.std.specs.Prelude.{FitsSigned, int_div, int_le, int_lt, int_rem, unsigned_abs}
use Rattle.std.specs.Int.{w64, cast_signed, cast_unsigned, int_wrap}
use Rattle.std.specs.Ordering.{int_eq}
use Rattle.std.proofs.Math.IntN.{+ℤ_idl}
use Rattle.std.proofs.Math.Nat.{div-le_self, mod-le}
use Rattle.std.proofs.lemmas.Bool.Decides.{Decides-eqb, Decides-int_eq, Decides-like, same_from_decides}
use Rattle.std.proofs.lemmas.Int.{fits_signed_from_abs, int_wrap_fits, ints, of_z-to_z, to_z-of_z}
use Rattle.std.proofs.lemmas.Int.{wrapping_add-bits, wrapping_mul-bits, wrapping_sub-bits}
use borrow.Author.Differences.{false_is_le, false_is_lt, true_is_le, true_is_lt}
use Rattle.bpf_insn.specs.Arithmetic.{low_bits, negate, result_of}
use Rattle.bpf_insn.specs.declared.instruction.Operation.TheVariants.{Add, Subtract, Multiply, SignedDivide, SignedModulo}
use Rattle.bpf_insn.specs.declared.instruction.Width.TheVariants.{Bits64}
use Rattle.cql2.specs.Filter.{compares}
use Rattle.cql2.specs.declared.filter.Comparison.{Comparison}
use Rattle.cql2.specs.declared.filter.Comparison.TheVariants.{Equal, NotEqual, Less, LessOrEqual, Greater, GreaterOrEqual}
use Rattle.cql2_code.proofs.Operands.{operand_fits}

-- 64 bits that are an integer in two's complement
pub record IsWord (word : ℕ) (number : ℤ) : Type 0 where
  pub small : word < 2 ^ 64
  pub is : cast_signed w64 word ≡ number

pub written : (number : ℤ) → FitsSigned w64 number → IsWord (cast_unsigned w64 number) number
written number fits = record { small = operand_fits number fits; is = to_z-of_z w64 number fits }

pub word_is : {word : ℕ} {number : ℤ} → IsWord word number → word ≡ cast_unsigned w64 number
word_is {word} held = sym (of_z-to_z w64 word held.small) ∙ ap (cast_unsigned w64) held.is

module _ {m n : ℕ} {x y : ℤ} (first : IsWord m x) (second : IsWord n y) where
  low_first : low_bits w64 m ≡ m
  low_first = let small = first.small in omega arith

  low_second : low_bits w64 n ≡ n
  low_second = let small = second.small in omega arith

  pub add_is : FitsSigned w64 (x +ℤ y) → IsWord (result_of Add Bits64 m n) (x +ℤ y)
  add_is fits = record {
    small = omega arith;
    is = ap (λ (k : ℕ). cast_signed w64 ((k + low_bits w64 n) % 2 ^ 64)) low_first ∙ ap (λ (k : ℕ). cast_signed w64 ((m + k) % 2 ^ 64)) low_second
        ∙ wrapping_add-bits w64 m n first.small second.small ∙ ap (λ (z : ℤ). int_wrap w64 (z +ℤ cast_signed w64 n)) first.is
        ∙ ap (λ (z : ℤ). int_wrap w64 (x +ℤ z)) second.is ∙ int_wrap_fits w64 (x +ℤ y) fits;
  }

  pub subtract_is : FitsSigned w64 (x -ℤ y) → IsWord (result_of Subtract Bits64 m n) (x -ℤ y)
  subtract_is fits = record {
    small = omega arith;
    is = ap (λ (k : ℕ). cast_signed w64 ((k + (2 ^ 64 - low_bits w64 n)) % 2 ^ 64)) low_first
        ∙ ap (λ (k : ℕ). cast_signed w64 ((m + (2 ^ 64 - k)) % 2 ^ 64)) low_second
        ∙ wrapping_sub-bits w64 m n first.small second.small ∙ ap (λ (z : ℤ). int_wrap w64 (z -ℤ cast_signed w64 n)) first.is
        ∙ ap (λ (z : ℤ). int_wrap w64 (x -ℤ z)) second.is ∙ int_wrap_fits w64 (x -ℤ y) fits;
  }

  pub multiply_is : FitsSigned w64 (x *ℤ y) → IsWord (result_of Multiply Bits64 m n) (x *ℤ y)
  multiply_is fits = record {
    small = omega arith;
    is = ap (λ (k : ℕ). cast_signed w64 ((k * low_bits w64 n) % 2 ^ 64)) low_first ∙ ap (λ (k : ℕ). cast_signed w64 ((m * k) % 2 ^ 64)) low_second
        ∙ wrapping_mul-bits w64 m n first.small second.small ∙ ap (λ (z : ℤ). int_wrap w64 (z *ℤ cast_signed w64 n)) first.is
        ∙ ap (λ (z : ℤ). int_wrap w64 (x *ℤ z)) second.is ∙ int_wrap_fits w64 (x *ℤ y) fits;
  }

  -- a word is 0 if its number is
  is_zero : (n == 0) ≡ int_eq y (pos 0)
  is_zero = same_from_decides _ _
      (Decides-like _ (λ none. sym second.is ∙ ap (cast_signed w64) none) (λ none. word_is second ∙ ap (cast_unsigned w64) none) (Decides-eqb n 0))
      (Decides-int_eq y (pos 0))

  low_is_zero : int_eq y (pos 0) ≡ false → (low_bits w64 n == 0) ≡ false
  low_is_zero some = ap (λ (k : ℕ). k == 0) low_second ∙ is_zero ∙ some

  pub read_first : cast_signed w64 (low_bits w64 m) ≡ x
  read_first = ap (cast_signed w64) low_first ∙ first.is

  pub read_second : cast_signed w64 (low_bits w64 n) ≡ y
  read_second = ap (cast_signed w64) low_second ∙ second.is

  pub divide_is : int_eq y (pos 0) ≡ false → FitsSigned w64 (int_div x y) → IsWord (result_of SignedDivide Bits64 m n) (int_div x y)
  divide_is some fits =
      subst (λ (k : ℕ). IsWord k (int_div x y))
      (sym
      (ap (λ (b : Bool). if b then 0 else cast_unsigned w64 (int_div (cast_signed w64 (low_bits w64 m)) (cast_signed w64 (low_bits w64 n))))
      (low_is_zero some)
      ∙ ap (λ (z : ℤ). cast_unsigned w64 (int_div z (cast_signed w64 (low_bits w64 n)))) read_first
      ∙ ap (λ (z : ℤ). cast_unsigned w64 (int_div x z)) read_second))
      (written (int_div x y) fits)

  pub remainder_is : int_eq y (pos 0) ≡ false → FitsSigned w64 (int_rem x y) → IsWord (result_of SignedModulo Bits64 m n) (int_rem x y)
  remainder_is some fits =
      subst (λ (k : ℕ). IsWord k (int_rem x y))
      (sym
      (ap (λ (b : Bool). if b then low_bits w64 m
      else cast_unsigned w64 (int_rem (cast_signed w64 (low_bits w64 m)) (cast_signed w64 (low_bits w64 n)))) (low_is_zero some)
      ∙ ap (λ (z : ℤ). cast_unsigned w64 (int_rem z (cast_signed w64 (low_bits w64 n)))) read_first
      ∙ ap (λ (z : ℤ). cast_unsigned w64 (int_rem x z)) read_second))
      (written (int_rem x y) fits)

pub negate_is : {n : ℕ} {y : ℤ} → IsWord n y → FitsSigned w64 (neg_ℤ y) → IsWord (negate Bits64 n) (neg_ℤ y)
negate_is {n} {y} held fits =
    let low = low_second held held in
    let e : 2 ^ 64 - n ≡ 0 + (2 ^ 64 - n) = omega arith in
    record {
      small = omega arith;
      is = ap (λ (k : ℕ). cast_signed w64 ((2 ^ 64 - k) % 2 ^ 64)) low ∙ ap (λ (k : ℕ). cast_signed w64 (k % 2 ^ 64)) e
          ∙ wrapping_sub-bits w64 0 n (omega arith) held.small
          ∙ ap (λ (z : ℤ). int_wrap w64 (pos 0 -ℤ z)) held.is ∙ ap (int_wrap w64) (+ℤ_idl (neg_ℤ y)) ∙ int_wrap_fits w64 (neg_ℤ y) fits;
    }

-- the absolute values of results

pub abs_neg : (x : ℤ) → unsigned_abs (neg_ℤ x) ≡ unsigned_abs x
abs_neg (pos zero) = refl
abs_neg (pos (suc n)) = refl
abs_neg (negsuc n) = refl

pub abs_add : (x y : ℤ) → unsigned_abs (x +ℤ y) ≤ unsigned_abs x + unsigned_abs y
abs_add x y = omega (arith, ints)

pub abs_subtract : (x y : ℤ) → unsigned_abs (x -ℤ y) ≤ unsigned_abs x + unsigned_abs y
abs_subtract x y = omega (arith, ints)

pub abs_divide : (x y : ℤ) → unsigned_abs (int_div x y) ≤ unsigned_abs x
abs_divide (pos a) (pos b) = div-le_self a b
abs_divide (pos a) (negsuc b) = let less = div-le_self a (suc b) in let same = abs_neg (pos (a / suc b)) in omega arith
abs_divide (negsuc a) (pos b) = let less = div-le_self (suc a) b in let same = abs_neg (pos (suc a / b)) in omega arith
abs_divide (negsuc a) (negsuc b) = div-le_self (suc a) (suc b)

pub abs_remainder : (x y : ℤ) → unsigned_abs (int_rem x y) ≤ unsigned_abs x
abs_remainder (pos a) y = mod-le a (unsigned_abs y)
abs_remainder (negsuc a) y =
    let less = mod-le (suc a) (unsigned_abs y) in let same = abs_neg (pos (suc a % unsigned_abs y)) in omega arith

-- a difference is compared with 0 as its parts with each other

same_equal : (x y : ℤ) → int_eq (x -ℤ y) (pos 0) ≡ int_eq x y
same_equal x y = same_from_decides _ _
    (Decides-like _ (λ none. omega (arith, ints)) (λ same. omega (arith, ints)) (Decides-int_eq (x -ℤ y) (pos 0))) (Decides-int_eq x y)

same_less : (x y : ℤ) → int_lt (x -ℤ y) (pos 0) ≡ int_lt x y
same_less x y = by_order (int_lt x y) refl
  where
    by_order : (less : Bool) → int_lt x y ≡ less → int_lt (x -ℤ y) (pos 0) ≡ less
    by_order true e = sym (true_is_lt (x -ℤ y) (pos 0) (omega (arith, ints)))
    by_order false e = sym (false_is_lt (x -ℤ y) (pos 0) (omega (arith, ints)))

same_greater : (x y : ℤ) → int_lt (pos 0) (x -ℤ y) ≡ int_lt y x
same_greater x y = by_order (int_lt y x) refl
  where
    by_order : (less : Bool) → int_lt y x ≡ less → int_lt (pos 0) (x -ℤ y) ≡ less
    by_order true e = sym (true_is_lt (pos 0) (x -ℤ y) (omega (arith, ints)))
    by_order false e = sym (false_is_lt (pos 0) (x -ℤ y) (omega (arith, ints)))

same_at_most : (x y : ℤ) → int_le (x -ℤ y) (pos 0) ≡ int_le x y
same_at_most x y = by_order (int_le x y) refl
  where
    by_order : (less : Bool) → int_le x y ≡ less → int_le (x -ℤ y) (pos 0) ≡ less
    by_order true e = sym (true_is_le (x -ℤ y) (pos 0) (omega (arith, ints)))
    by_order false e = sym (false_is_le (x -ℤ y) (pos 0) (omega (arith, ints)))

same_at_least : (x y : ℤ) → int_le (pos 0) (x -ℤ y) ≡ int_le y x
same_at_least x y = by_order (int_le y x) refl
  where
    by_order : (less : Bool) → int_le y x ≡ less → int_le (pos 0) (x -ℤ y) ≡ less
    by_order true e = sym (true_is_le (pos 0) (x -ℤ y) (omega (arith, ints)))
    by_order false e = sym (false_is_le (pos 0) (x -ℤ y) (omega (arith, ints)))

pub difference_compares : (comparison : Comparison) (x y : ℤ) → compares comparison (x -ℤ y) (pos 0) ≡ compares comparison x y
difference_compares Equal x y = same_equal x y
difference_compares NotEqual x y = ap not (same_equal x y)
difference_compares Less x y = same_less x y
difference_compares LessOrEqual x y = same_at_most x y
difference_compares Greater x y = same_greater x y
difference_compares GreaterOrEqual x y = same_at_least x y

pub fits_by : (x : ℤ) (most : ℕ) → unsigned_abs x ≤ most → most < 2 ^ 63 → FitsSigned w64 x
fits_by x most below few = fits_signed_from_abs w64 x (omega arith)
