-- The number of a wide load is read as it was written.
use Rattle.std.proofs.Common.{◌≡◌, ℕ, suc, zero, ◌+◌, ◌*◌, ◌/◌, ◌%◌, ◌^◌, ◌<◌, Bool, true, ◌&&◌, cond, nat_le, length, Result, Ok, Err}
use Rattle.std.proofs.Common.{refl, sym, ap, ◌∙◌, arith}
use Rattle.std.specs.List.{list_all}
use Rattle.std.specs.Char.{digit_char, digit_value}
use Rattle.std.specs.Str.Parse.{digits_value, digits_value_after}
use Rattle.std.proofs.lemmas.Bool.{and_from, lt-ltb, le-leb}
use Rattle.std.proofs.lemmas.Bool.Decides.{nat_tests}
use Rattle.std.proofs.Math.Arith.{mod-mul}
use Rattle.std.proofs.Math.Pow.{pow-add, pow_pos}
use Rattle.bpf_assembler.specs.declared.fault.TextFaultKind.{TextFaultKind}
use Rattle.bpf_assembler.specs.declared.fault.TextFaultKind.TheVariants.{Syntax}
use Rattle.bpf_assembler.specs.Number.{is_digit, wide_in}
use Rattle.bpf_text.specs.CodeText.{hexadecimal, wide_text}
use Rattle.bpf_text.proofs.ReadLemmas.{all-by}
use Rattle.bpf_text.proofs.ReadLineLemmas.{IsWord, is_word_byte}

digit-back : (d : ℕ) → d < 16 → digit_value (digit_char d) ≡ d
digit-back d small = grind (arith, nat_tests)

hex-is-word : (byte : ℕ) → is_digit 16 byte ≡ true → is_word_byte byte ≡ true
hex-is-word byte is = grind (arith, nat_tests)

pub hexadecimal-length : (k n : ℕ) → length (hexadecimal k n) ≡ k
unfolding hexadecimal
hexadecimal-length zero n = refl
hexadecimal-length (suc k) n = ap suc (hexadecimal-length k n)

hexadecimal-digits : (k n : ℕ) → list_all (is_digit 16) (hexadecimal k n) ≡ true
unfolding hexadecimal
hexadecimal-digits zero n = refl
hexadecimal-digits (suc k) n =
    let small : n / 2 ^ (4 * k) % 16 < 16 = omega arith in
    let digit : digit_value (digit_char (n / 2 ^ (4 * k) % 16)) < 16 = rw (digit-back (n / 2 ^ (4 * k) % 16) small) small in
    and_from _ _ (lt-ltb _ _ digit) (hexadecimal-digits k n)

hexadecimal-value : (k acc n : ℕ) → digits_value_after 16 acc (hexadecimal k n) ≡ acc * 2 ^ (4 * k) + n % 2 ^ (4 * k)
unfolding hexadecimal
hexadecimal-value zero acc n = omega arith
hexadecimal-value (suc k) acc n =
    let d = n / 2 ^ (4 * k) % 16 in
    let digit = digit-back d (omega arith) in
    let grows : 2 ^ (4 * suc k) ≡ 16 * 2 ^ (4 * k) = ap (λ (e : ℕ). 2 ^ e) (omega arith) ∙ pow-add 2 4 (4 * k) in
    let parts : n % (16 * 2 ^ (4 * k)) ≡ d * 2 ^ (4 * k) + n % 2 ^ (4 * k) = mod-mul n (omega arith) (pow_pos (4 * k)) in
    ap (λ (v : ℕ). digits_value_after 16 (acc * 16 + v) (hexadecimal k n)) digit ∙ hexadecimal-value k (acc * 16 + d) n
    ∙ (let sum : (acc * 16 + d) * 2 ^ (4 * k) + n % 2 ^ (4 * k) ≡ acc * (16 * 2 ^ (4 * k)) + (d * 2 ^ (4 * k) + n % 2 ^ (4 * k)) =
    omega arith in sum) ∙ ap (λ (r : ℕ). acc * (16 * 2 ^ (4 * k)) + r) (sym parts) ∙ ap (λ (p : ℕ). acc * p + n % p) (sym grows)

pub wide-back : (n : ℕ) → n < 2 ^ 64 → wide_in (wide_text n) ≡ Ok n
wide-back n small =
    let ds = hexadecimal 16 n in
    let size = hexadecimal-length 16 n in
    let some = le-leb 1 (length ds) (omega (arith, size)) in
    let few = le-leb (length ds) 16 (omega (arith, size)) in
    let test : (nat_le 1 (length ds) && nat_le (length ds) 16 && list_all (is_digit 16) ds) ≡ true =
    and_from _ _ (and_from _ _ some few) (hexadecimal-digits 16 n) in
    let value : digits_value 16 ds ≡ n = hexadecimal-value 16 0 n
    ∙ (let whole : 0 * 2 ^ (4 * 16) + n % 2 ^ (4 * 16) ≡ n = omega arith in whole) in
    ap (λ (t : Bool). cond t (Ok (digits_value 16 ds)) (Err Syntax)) test ∙ ap (λ (v : ℕ). let r : Result ℕ TextFaultKind = Ok v in r) value

pub word-of-wide : (n : ℕ) → IsWord (wide_text n)
word-of-wide n = record {
  some = omega arith;
  bytes = and_from _ _ refl
      (and_from _ _ refl (all-by (is_digit 16) is_word_byte hex-is-word (hexadecimal 16 n) (hexadecimal-digits 16 n)));
}
