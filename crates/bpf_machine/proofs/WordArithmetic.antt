-- Operations and moves on words represent those on values.
use Rattle.std.proofs.Common.{◌≡◌, ℕ, ◌+◌, ◌-◌, ◌^◌, ◌<◌, ◌%◌, ℤ, pos, negsuc, ◌+ℤ◌, ◌-ℤ◌, Bool, true, false, IsTrue, Ok, Err}
use Rattle.std.proofs.Common.{if◌then◌else◌, refl, sym, ap, ◌∙◌, subst, arith}
use Rattle.std.specs.Int.{cast_signed, cast_unsigned, w32, w64}
use Rattle.std.proofs.lemmas.Bool.Decides.{nat_tests}
use Rattle.std.proofs.lemmas.Int.{ints}
use Rattle.bpf_insn.specs.Arithmetic.{result_of, low_bits, operand_bits}
use Rattle.bpf_insn.specs.Pointer.{is_offset}
use Rattle.bpf_insn.specs.declared.instruction.Operation.{Operation}
use Rattle.bpf_insn.specs.declared.instruction.Operation.TheVariants.{Add, Subtract}
use Rattle.bpf_insn.specs.declared.instruction.Width.{Width}
use Rattle.bpf_insn.specs.declared.instruction.Width.TheVariants.{Bits32, Bits64}
use Rattle.bpf_insn.specs.declared.value.Area.{Area}
use Rattle.bpf_insn.specs.declared.value.Pointer.{Pointer as PointerParts}
use Rattle.bpf_insn.specs.declared.value.Value.{Value}
use Rattle.bpf_insn.specs.declared.value.Value.TheVariants as value
use Rattle.bpf_kinds.specs.Interval as interval
use Rattle.bpf_kinds.specs.Interval.{single}
use Rattle.bpf_kinds.specs.declared.interval.Interval.{Interval}
use Rattle.bpf_kinds.proofs.ResultLemmas.{alu-proper, alu-admits}
use Rattle.bpf_meaning.specs.Checks.{◌>>=◌, Sound}
use Rattle.bpf_meaning.specs.Effect as effect
use Rattle.bpf_meaning.specs.Tags as tags
use Rattle.bpf_meaning.specs.declared.cause.Cause.TheVariants.{LeavesArea, PointerArithmetic}
use Rattle.bpf_machine.specs.Words.{IsWordOf}

-- a word is a number of 64 bits
abbrev pub IsNumber : ℕ → ℕ → Type 0
IsNumber n word = (word ≡ n) × (n < 2 ^ 64)

-- sums and differences of offsets, in two's complement

sum_word : (offset : ℤ) (word n : ℕ) → n < 2 ^ 64 → word ≡ cast_unsigned w64 offset → IsTrue (is_offset offset)
    → IsTrue (is_offset (cast_signed w64 n)) → (word % 2 ^ 64 + n % 2 ^ 64) % 2 ^ 64 ≡ cast_unsigned w64 (offset +ℤ cast_signed w64 n)
sum_word (pos a) word n fits is near by = grind (arith, ints, nat_tests)
sum_word (negsuc a) word n fits is near by = grind (arith, ints, nat_tests)

difference_word : (offset : ℤ) (word n : ℕ) → n < 2 ^ 64 → word ≡ cast_unsigned w64 offset → IsTrue (is_offset offset)
    → IsTrue (is_offset (cast_signed w64 n)) → (word % 2 ^ 64 + (2 ^ 64 - n % 2 ^ 64)) % 2 ^ 64 ≡ cast_unsigned w64
    (offset -ℤ cast_signed w64 n)
difference_word (pos a) word n fits is near by = grind (arith, ints, nat_tests)
difference_word (negsuc a) word n fits is near by = grind (arith, ints, nat_tests)

added_is : (offset : ℤ) (word n : ℕ) → n < 2 ^ 64 → word ≡ cast_unsigned w64 offset → IsTrue (is_offset offset)
    → IsTrue (is_offset (cast_signed w64 n)) → result_of Add Bits64 word n ≡ cast_unsigned w64 (offset +ℤ cast_signed w64 n)
added_is offset word n fits is near by = sum_word offset word n fits is near by

added_to_is : (offset : ℤ) (word n : ℕ) → n < 2 ^ 64 → word ≡ cast_unsigned w64 offset → IsTrue (is_offset offset)
    → IsTrue (is_offset (cast_signed w64 n)) → result_of Add Bits64 n word ≡ cast_unsigned w64 (offset +ℤ cast_signed w64 n)
added_to_is offset word n fits is near by = let here = sum_word offset word n fits is near by in omega arith

subtracted_is : (offset : ℤ) (word n : ℕ) → n < 2 ^ 64 → word ≡ cast_unsigned w64 offset → IsTrue (is_offset offset)
    → IsTrue (is_offset (cast_signed w64 n)) → result_of Subtract Bits64 word n ≡ cast_unsigned w64 (offset -ℤ cast_signed w64 n)
subtracted_is offset word n fits is near by = difference_word offset word n fits is near by

-- a pointer moved by a near distance, if its offset stays in range
moved_held : (near : Bool) (distance : ℤ) (move : ℤ → ℤ) (into : Area) (word : ℕ) → (near ≡ true → word ≡ cast_unsigned w64 (move distance))
    → Sound IsWordOf ((if near then Ok distance else Err PointerArithmetic) >>= (λ by. effect.offset_or (move by)) >>= λ offset.
    Ok (value.Pointer (record { area = into; offset = offset }))) (Ok word)
moved_held false distance move into word same = tt
moved_held true distance move into word same = by_test (is_offset (move distance)) refl
  where
    by_test : (test : Bool) → is_offset (move distance) ≡ test → Sound IsWordOf
        ((if test then Ok (move distance) else Err LeavesArea) >>= λ offset. Ok (value.Pointer (record { area = into; offset = offset })))
        (Ok word)
    by_test true is = (same refl, is)
    by_test false is = tt

on_pointer_held : (operation : Operation) (pointer : PointerParts) (n word : ℕ) → n < 2 ^ 64 → IsWordOf (value.Pointer pointer) word
    → Sound IsWordOf (tags.operate_on_pointer effect.value_tags operation pointer.offset n >>= λ offset.
    Ok (value.Pointer (record { area = pointer.area; offset = offset }))) (Ok (result_of operation Bits64 word n))
on_pointer_held Add pointer n word fits held =
    moved_held (is_offset (cast_signed w64 n)) (cast_signed w64 n) (λ by. pointer.offset +ℤ by) pointer.area _
    (added_is pointer.offset word n fits held.0 held.1)
on_pointer_held Subtract pointer n word fits held =
    moved_held (is_offset (cast_signed w64 n)) (cast_signed w64 n) (λ by. pointer.offset -ℤ by) pointer.area _
    (subtracted_is pointer.offset word n fits held.0 held.1)
on_pointer_held operation pointer n word fits held = tt

with_pointer_held : (operation : Operation) (pointer : PointerParts) (n word : ℕ) → n < 2 ^ 64 → IsWordOf (value.Pointer pointer) word
    → Sound IsWordOf (tags.operate_with_pointer effect.value_tags operation n pointer.offset >>= λ offset.
    Ok (value.Pointer (record { area = pointer.area; offset = offset }))) (Ok (result_of operation Bits64 n word))
with_pointer_held Add pointer n word fits held =
    moved_held (is_offset (cast_signed w64 n)) (cast_signed w64 n) (λ by. pointer.offset +ℤ by) pointer.area _
    (added_to_is pointer.offset word n fits held.0 held.1)
with_pointer_held operation pointer n word fits held = tt

-- Results of 64-bit numbers have 64 bits: the interval of a single number is proper, and so is that of the results.

pub single-proper : (n : ℕ) → n < 2 ^ 64 → interval.IsProper (single n)
single-proper n fits = record { ordered = omega arith; fits = fits }

pub single-admits : (n : ℕ) → interval.Admits (single n) n
single-admits n = record { above = omega arith; below = omega arith }

pub admitted_fits : (x : Interval) (n : ℕ) → interval.IsProper x → interval.Admits x n → n < 2 ^ 64
admitted_fits x n proper admits = let most = admits.below in let fits = proper.fits in omega arith

results_held : (operation : Operation) (width : Width) (x y m n : ℕ) → IsNumber x m → IsNumber y n
    → IsNumber (result_of operation width x y) (result_of operation width m n)
results_held operation width x y m n left right =
    let one = single-proper x left.1 in let other = single-proper y right.1 in (
      ap (λ (k : ℕ). result_of operation width k n) left.0 ∙ ap (λ (k : ℕ). result_of operation width x k) right.0,
      admitted_fits _ _ (alu-proper operation width (single x) (single y) one other)
          (alu-admits operation width (single-admits x) (single-admits y)),
    )

pub operate_held : (operation : Operation) (width : Width) (v w : Value) (m n : ℕ) → IsWordOf v m → IsWordOf w n
    → Sound IsWordOf (tags.operate effect.value_tags operation width v w) (Ok (result_of operation width m n))
operate_held operation width (value.Number x) (value.Number y) m n left right = results_held operation width x y m n left right
operate_held operation Bits64 (value.Pointer pointer) (value.Number y) m n left right =
    subst (λ (k : ℕ). Sound IsWordOf (tags.operate effect.value_tags operation Bits64 (value.Pointer pointer) (value.Number y))
    (Ok (result_of operation Bits64 m k))) (sym right.0)
    (on_pointer_held operation pointer y m right.1 left)
operate_held operation Bits64 (value.Number x) (value.Pointer pointer) m n left right =
    subst (λ (k : ℕ). Sound IsWordOf (tags.operate effect.value_tags operation Bits64 (value.Number x) (value.Pointer pointer))
    (Ok (result_of operation Bits64 k n))) (sym left.0)
    (with_pointer_held operation pointer x n left.1 right)
operate_held operation width v w m n left right = tt

-- moves

pub offset_unchanged : (offset : ℤ) (word : ℕ) → word ≡ cast_unsigned w64 offset → IsTrue (is_offset offset)
    → word % 2 ^ 64 ≡ cast_unsigned w64 offset
offset_unchanged (pos a) word is near = grind (arith, ints, nat_tests)
offset_unchanged (negsuc a) word is near = grind (arith, ints, nat_tests)

pub move_held : (width : Width) (v : Value) (word : ℕ) → IsWordOf v word
    → Sound IsWordOf (tags.move effect.value_tags width v) (Ok (low_bits (operand_bits width) word))
move_held Bits64 (value.Number n) word held = let same = held.0 in let fits = held.1 in (omega arith, fits)
move_held Bits64 (value.Pointer pointer) word held = (offset_unchanged pointer.offset word held.0 held.1, held.1)
move_held Bits32 (value.Number n) word held = (ap (low_bits w32) held.0, omega arith)
move_held Bits64 v word held = tt
move_held Bits32 v word held = tt
