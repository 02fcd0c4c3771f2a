-- Immediates, targets and memory operands are read as they were written.
use Rattle.std.proofs.Common.{◌≡◌, ℕ, suc, ℤ, pos, negsuc, neg_ℤ, ◌≤ℤ◌, ◌<ℤ◌, ◌+◌, ◌-◌, ◌^◌, ◌<◌, ◌≤◌, Bool, true, false, ◌&&◌, cond}
use Rattle.std.proofs.Common.{List, [], ◌∷◌, ◌++◌, length, take, drop, Option, Some, None, Result, Ok, decimal, refl, ap, ◌∙◌, arith}
use Rattle.std.specs.Prelude.{◌==◌, not, slice_index, slice_range}
use Rattle.std.specs.List.{list_all, position_or_len, before_first}
use Rattle.std.specs.Fmt.{signed_decimal}
use Rattle.std.proofs.lemmas.Bool.{and_parts, and_from}
use Rattle.std.proofs.lemmas.Bool.Decides.{nat_tests}
use Rattle.std.proofs.lemmas.Int.{ints}
use Rattle.std.proofs.lemmas.List.{length-append, get_or_push}
use Rattle.std.proofs.Math.Seq.{take-append_seam, drop-append_seam}
use Rattle.bpf_insn.specs.declared.register.Register.{Register}
use Rattle.bpf_insn.specs.declared.instruction.Source.TheVariants as source
use Rattle.bpf_assembler.specs.declared.fault.TextFaultKind.{TextFaultKind}
use Rattle.bpf_assembler.specs.Words.{is_sign, is_label}
use Rattle.bpf_assembler.specs.Number.{and_then, is_digit, negative, signed_in, immediate_in, is_hexadecimal, limit_of_16_bits, limit_of_32_bits}
use Rattle.bpf_assembler.specs.Operand.{register_name, register_number, register_at, register_in, option_and_then, source_in, source_with}
use Rattle.bpf_assembler.specs.Operand.{target_in, both, offset_in, address_in, memory_in}
use Rattle.bpf_text.specs.CodeText.{signed_text, memory_text}
use Rattle.bpf_assembler.proofs.WordLemmas.{memory-bracketed}
use Rattle.bpf_text.proofs.ReadLemmas.{all-append, place-at, before-at}
use Rattle.bpf_text.proofs.ReadLineLemmas.{IsWord, is_word_byte}
use Rattle.bpf_text.proofs.ReadRegisterLemmas.{decimal-digits, digit-range, word-of-decimal, decimal-back, positive-back, negative-back}
use Rattle.bpf_text.proofs.ReadRegisterLemmas.{signed-back, word-of-register, register-back}

and-false : (test : Bool) → (test && false) ≡ false
and-false true = refl
and-false false = refl

-- digits aren't a register
no-register : (ds : List ℕ) → 1 ≤ length ds → list_all (is_digit 10) ds ≡ true → register_number ds ≡ None
no-register [] some all = absurd (omega arith)
no-register (d ∷ ds) some all =
    let range = digit-range d (and_parts (is_digit 10 d) (list_all (is_digit 10) ds) all).0 in
    let other : (114 == d) ≡ false = (let low = range.0 in let high = range.1 in grind (arith, nat_tests)) in
    rw other refl

-- digits don't begin with `0x` or a minus
second-digit : (ds : List ℕ) → list_all (is_digit 10) ds ≡ true → (slice_index ds 1 == 120) ≡ false
second-digit [] all = refl
second-digit (a ∷ []) all = refl
second-digit (a ∷ b ∷ ds) all =
    let more = (and_parts (is_digit 10 a) (list_all (is_digit 10) (b ∷ ds)) all).1 in
    let range = digit-range b (and_parts (is_digit 10 b) (list_all (is_digit 10) ds) more).0 in
    let low = range.0 in let high = range.1 in grind (arith, nat_tests)

first-digit : (ds : List ℕ) → list_all (is_digit 10) ds ≡ true → (slice_index ds 0 == 45) ≡ false
first-digit [] all = refl
first-digit (a ∷ ds) all =
    let range = digit-range a (and_parts (is_digit 10 a) (list_all (is_digit 10) ds) all).0 in
    let low = range.0 in let high = range.1 in grind (arith, nat_tests)

not-hexadecimal : (ds : List ℕ) → list_all (is_digit 10) ds ≡ true → is_hexadecimal ds ≡ false
not-hexadecimal ds all = ap (λ (t : Bool). (slice_index ds 0 == 48) && t) (second-digit ds all) ∙ and-false (slice_index ds 0 == 48)

-- an immediate
pub immediate-back : (value : ℤ) → neg_ℤ (pos limit_of_32_bits) ≤ℤ value → value <ℤ pos limit_of_32_bits
    → immediate_in (signed_decimal value) ≡ Ok value
immediate-back (pos n) low high =
    let within : n < limit_of_32_bits = omega (arith, ints, high) in
    let small : n < 2 ^ 64 = omega arith in
    let ds = decimal n in
    let digits = decimal-digits n small in
    rw (not-hexadecimal ds digits, first-digit ds digits, decimal-back n small) (positive-back limit_of_32_bits n within)
immediate-back (negsuc n) low high =
    let within : suc n ≤ limit_of_32_bits = omega (arith, ints, low) in
    let small : suc n < 2 ^ 64 = omega arith in
    ap (λ (r : Result ℕ TextFaultKind). and_then r (negative limit_of_32_bits)) (decimal-back (suc n) small)
    ∙ negative-back limit_of_32_bits n within

word-of-prefixed : (byte n : ℕ) → is_word_byte byte ≡ true → n < 2 ^ 64 → IsWord (byte ∷ decimal n)
word-of-prefixed byte n is small = record { some = omega arith; bytes = and_from _ _ is (word-of-decimal n small).bytes }

pub word-of-immediate : (value : ℤ) → neg_ℤ (pos limit_of_32_bits) ≤ℤ value → value <ℤ pos limit_of_32_bits → IsWord (signed_decimal value)
word-of-immediate (pos n) low high = word-of-decimal n (omega (arith, ints, high))
word-of-immediate (negsuc n) low high = word-of-prefixed 45 (suc n) refl (omega (arith, ints, low))

pub word-of-signed : (value : ℤ) → neg_ℤ (pos limit_of_32_bits) ≤ℤ value → value <ℤ pos limit_of_32_bits → IsWord (signed_text value)
word-of-signed (pos n) low high = word-of-prefixed 43 n refl (omega (arith, ints, high))
word-of-signed (negsuc n) low high = word-of-prefixed 45 (suc n) refl (omega (arith, ints, low))

no-register-immediate : (value : ℤ) → neg_ℤ (pos limit_of_32_bits) ≤ℤ value → value <ℤ pos limit_of_32_bits
    → register_number (signed_decimal value) ≡ None
no-register-immediate (pos n) low high =
    let small : n < 2 ^ 64 = omega (arith, ints, high) in
    no-register (decimal n) (word-of-decimal n small).some (decimal-digits n small)
no-register-immediate (negsuc n) low high = refl

pub source-immediate-back : (value : ℤ) → neg_ℤ (pos limit_of_32_bits) ≤ℤ value → value <ℤ pos limit_of_32_bits
    → source_in (signed_decimal value) ≡ Ok (source.Immediate value)
source-immediate-back value low high =
    ap (λ (o : Option ℕ). source_with (option_and_then register_at o) (signed_decimal value)) (no-register-immediate value low high)
    ∙ ap (λ (r : Result ℤ TextFaultKind). and_then r (λ v. Ok (source.Immediate v))) (immediate-back value low high)

-- a target's distance
no-label : (value : ℤ) → is_label (signed_text value) ≡ false
no-label (pos n) = and-false _
no-label (negsuc n) = and-false _

pub target-back : (limit : ℕ) (value : ℤ) → limit ≤ 2 ^ 31 → neg_ℤ (pos limit) ≤ℤ value → value <ℤ pos limit
    → target_in limit (signed_text value) ≡ Ok (value, None)
target-back limit value bound low high =
    ap (λ (t : Bool). cond t (Ok (pos 0, Some (signed_text value)))
    (and_then (signed_in limit (signed_text value)) (λ distance. Ok (distance, None)))) (no-label value)
    ∙ ap (λ (r : Result ℤ TextFaultKind). and_then r (λ distance. let o : Result (ℤ × Option (List ℕ)) TextFaultKind = Ok (distance, None) in o))
    (signed-back limit value bound low high)

-- a memory operand
register-unsigned : (number : ℕ) → number ≤ 10 → list_all (λ byte. not (is_sign byte)) (register_name number) ≡ true
register-unsigned (suc (suc (suc (suc (suc (suc (suc (suc (suc (suc (suc n))))))))))) within = absurd (omega arith)
register-unsigned number within = refl

offset-by : (sign : ℕ) (ds : List ℕ) → offset_in (sign ∷ ds) ≡ signed_in limit_of_16_bits (sign ∷ ds)
offset-by sign ds = let some : (length (sign ∷ ds) == 0) ≡ false = grind (arith, nat_tests) in rw some refl

address-by : (base : Register) (sign : ℕ) (ds : List ℕ) (offset : ℤ) → is_sign sign ≡ true
    → signed_in limit_of_16_bits (sign ∷ ds) ≡ Ok offset → address_in (register_name base.number ++ sign ∷ ds) ≡ Ok (base, offset)
address-by base sign ds offset is means =
    let reg = register_name base.number in
    let none = register-unsigned base.number base.in_range in
    let first : register_in (before_first is_sign (reg ++ sign ∷ ds)) ≡ Ok base =
    ap register_in (before-at is_sign reg ds sign none is) ∙ register-back base in
    let second : offset_in (drop (position_or_len is_sign (reg ++ sign ∷ ds)) (reg ++ sign ∷ ds)) ≡ Ok offset =
    ap (λ (n : ℕ). offset_in (drop n (reg ++ sign ∷ ds))) (place-at is_sign reg ds sign none is)
    ∙ ap offset_in (drop-append_seam reg (sign ∷ ds)) ∙ offset-by sign ds ∙ means in
    ap (λ (r : Result Register TextFaultKind). both r (offset_in (drop (position_or_len is_sign (reg ++ sign ∷ ds)) (reg ++ sign ∷ ds)))) first
    ∙ ap (λ (r : Result ℤ TextFaultKind). both (let o : Result Register TextFaultKind = Ok base in o) r) second

address-back : (base : Register) (offset : ℤ) → neg_ℤ (pos limit_of_16_bits) ≤ℤ offset → offset <ℤ pos limit_of_16_bits
    → address_in (register_name base.number ++ signed_text offset) ≡ Ok (base, offset)
address-back base (pos n) low high = address-by base 43 (decimal n) (pos n) refl
    (signed-back limit_of_16_bits (pos n) (omega arith) low high)
address-back base (negsuc n) low high = address-by base 45 (decimal (suc n)) (negsuc n) refl
    (signed-back limit_of_16_bits (negsuc n) (omega arith) low high)

in-brackets : (inner : List ℕ) → memory_in (91 ∷ (inner ++ 93 ∷ [])) ≡ address_in inner
in-brackets inner =
    let word : List ℕ = 91 ∷ (inner ++ 93 ∷ []) in
    let size : length word ≡ suc (length inner + 1) = omega (arith, length-append inner (93 ∷ [])) in
    let long : 2 ≤ length word = omega (arith, size) in
    let closes : slice_index word (length word - 1) ≡ 93 = get_or_push (91 ∷ inner) 93 0 (length word - 1) (omega (arith, size)) in
    let count : (length word - 1) - 1 ≡ length inner = omega (arith, size) in
    let inside : slice_range word 1 (length word - 1) ≡ inner = ap (λ (n : ℕ). take n (inner ++ 93 ∷ [])) count ∙ take-append_seam inner
    (93 ∷ []) in
    memory-bracketed word long refl closes ∙ ap address_in inside

pub memory-back : (base : Register) (offset : ℤ) → neg_ℤ (pos limit_of_16_bits) ≤ℤ offset → offset <ℤ pos limit_of_16_bits
    → memory_in (memory_text base offset) ≡ Ok (base, offset)
memory-back base offset low high = in-brackets (register_name base.number ++ signed_text offset) ∙ address-back base offset low high

pub word-of-memory : (base : Register) (offset : ℤ) → neg_ℤ (pos limit_of_32_bits) ≤ℤ offset → offset <ℤ pos limit_of_32_bits
    → IsWord (memory_text base offset)
word-of-memory base offset low high = record {
  some = omega arith;
  bytes = and_from _ _ refl (all-append is_word_byte (register_name base.number ++ signed_text offset) (93 ∷ [])
      (all-append is_word_byte (register_name base.number) (signed_text offset) (word-of-register base).bytes
      (word-of-signed offset low high).bytes) refl);
}
