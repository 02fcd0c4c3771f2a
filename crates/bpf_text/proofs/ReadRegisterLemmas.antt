-- Registers and numbers are read as they were written.
use Rattle.std.proofs.Common.{◌≡◌, ℕ, suc, zero, ℤ, pos, negsuc, neg_ℤ, ◌≤ℤ◌, ◌<ℤ◌, ◌^◌, ◌<◌, ◌≤◌, ◌++◌, Bool, true, ◌&&◌, cond, nat_le}
use Rattle.std.proofs.Common.{List, [], ◌∷◌, length, Option, Some, Result, Ok, Err, decimal, refl, ap, ◌∙◌, arith}
use Rattle.std.specs.List.{list_all}
use Rattle.std.specs.Str.Parse.{digits_value, AllDigits}
use Rattle.std.proofs.lemmas.Bool.{and_from, lt-ltb, le-leb, leb-true}
use Rattle.std.proofs.lemmas.Bool.Decides.{nat_tests}
use Rattle.std.proofs.lemmas.Int.{ints}
use Rattle.std.proofs.lemmas.Fmt.{decimal_is_IsNumeral, length-decimal-le, decimal_nonempty}
use Rattle.bpf_insn.specs.declared.register.Register.{Register}
use Rattle.bpf_insn.specs.declared.instruction.Source.TheVariants as source
use Rattle.bpf_assembler.specs.declared.fault.TextFaultKind.{TextFaultKind}
use Rattle.bpf_assembler.specs.declared.fault.TextFaultKind.TheVariants.{Syntax}
use Rattle.bpf_assembler.specs.Number.{and_then, is_digit, decimal_in, positive, negative, signed_in}
use Rattle.bpf_assembler.specs.Operand.{register_name, register_number, register_named, register_at, register_in, option_and_then, or_fault}
use Rattle.bpf_assembler.specs.Operand.{source_in, source_with}
use Rattle.bpf_text.specs.CodeText.{signed_text}
use Rattle.bpf_assembler.proofs.OperandLemmas.{register_at-same}
use Rattle.bpf_text.proofs.ReadLemmas.{all-by}
use Rattle.bpf_text.proofs.ReadLineLemmas.{IsWord, is_word_byte}

-- a register's name is a word, by which the register is found
pub record IsNamed (number : ℕ) : Type 0 where
  pub word : list_all is_word_byte (register_name number) ≡ true
  pub some : nat_le 1 (length (register_name number)) ≡ true
  pub found : register_number (register_name number) ≡ Some number

named_register : (number : ℕ) → list_all is_word_byte (register_name number) ≡ true → nat_le 1 (length (register_name number)) ≡ true
    → register_number (register_name number) ≡ Some number → IsNamed number
named_register number word some found = record { word = word; some = some; found = found }

pub register-found : (number : ℕ) → number ≤ 10 → IsNamed number
register-found zero within = named_register 0 refl refl refl
register-found (suc zero) within = named_register 1 refl refl refl
register-found (suc (suc zero)) within = named_register 2 refl refl refl
register-found (suc (suc (suc zero))) within = named_register 3 refl refl refl
register-found (suc (suc (suc (suc zero)))) within = named_register 4 refl refl refl
register-found (suc (suc (suc (suc (suc zero))))) within = named_register 5 refl refl refl
register-found (suc (suc (suc (suc (suc (suc zero)))))) within = named_register 6 refl refl refl
register-found (suc (suc (suc (suc (suc (suc (suc zero))))))) within = named_register 7 refl refl refl
register-found (suc (suc (suc (suc (suc (suc (suc (suc zero)))))))) within = named_register 8 refl refl refl
register-found (suc (suc (suc (suc (suc (suc (suc (suc (suc zero))))))))) within = named_register 9 refl refl refl
register-found (suc (suc (suc (suc (suc (suc (suc (suc (suc (suc zero)))))))))) within = named_register 10 refl refl refl
register-found (suc (suc (suc (suc (suc (suc (suc (suc (suc (suc (suc n))))))))))) within = absurd (omega arith)

-- a register
pub word-of-register : (r : Register) → IsWord (register_name r.number)
word-of-register r = let name = register-found r.number r.in_range in
    record { some = leb-true 1 (length (register_name r.number)) name.some; bytes = name.word }

named-back : (r : Register) → register_named (register_name r.number) ≡ Some r
named-back r = ap (option_and_then register_at) (register-found r.number r.in_range).found ∙ register_at-same r

pub register-back : (r : Register) → register_in (register_name r.number) ≡ Ok r
register-back r = ap (or_fault Syntax) (named-back r)

pub source-register-back : (r : Register) → source_in (register_name r.number) ≡ Ok (source.Register r)
source-register-back r = ap (λ (o : Option Register). source_with o (register_name r.number)) (named-back r)

-- digits
all-digits : (ds : List ℕ) → AllDigits 10 ds → list_all (is_digit 10) ds ≡ true
all-digits [] all = refl
all-digits (d ∷ ds) all = and_from _ _ (lt-ltb _ _ all.0) (all-digits ds all.1)

digit-is-word : (byte : ℕ) → is_digit 10 byte ≡ true → is_word_byte byte ≡ true
digit-is-word byte is = grind (arith, nat_tests)

pub digit-range : (byte : ℕ) → is_digit 10 byte ≡ true → (48 ≤ byte) × (byte ≤ 57)
digit-range byte is = (grind (arith, nat_tests), grind (arith, nat_tests))

pub decimal-digits : (n : ℕ) → n < 2 ^ 64 → list_all (is_digit 10) (decimal n) ≡ true
decimal-digits n small = all-digits (decimal n) (decimal_is_IsNumeral n small).0.1

pub word-of-decimal : (n : ℕ) → n < 2 ^ 64 → IsWord (decimal n)
word-of-decimal n small = record {
  some = decimal_nonempty n small;
  bytes =
      all-by (is_digit 10) is_word_byte digit-is-word (decimal n) (decimal-digits n small);
}

pub decimal-back : (n : ℕ) → n < 2 ^ 64 → decimal_in (decimal n) ≡ Ok n
decimal-back n small =
    let some = le-leb 1 (length (decimal n)) (decimal_nonempty n small) in
    let few = le-leb (length (decimal n)) 20 (length-decimal-le 20 n (omega arith) (omega arith) small) in
    let test : (nat_le 1 (length (decimal n)) && nat_le (length (decimal n)) 20 && list_all (is_digit 10) (decimal n)) ≡ true =
    and_from _ _ (and_from _ _ some few) (decimal-digits n small) in
    ap (λ (t : Bool). cond t (Ok (digits_value 10 (decimal n))) (Err Syntax)) test
    ∙ ap (λ (v : ℕ). let r : Result ℕ TextFaultKind = Ok v in r) (decimal_is_IsNumeral n small).1

pub positive-back : (limit n : ℕ) → n < limit → positive limit n ≡ Ok (pos n)
positive-back limit n within = rw (lt-ltb n limit within) refl

pub negative-back : (limit n : ℕ) → suc n ≤ limit → negative limit (suc n) ≡ Ok (negsuc n)
negative-back limit n within = rw (le-leb (suc n) limit within) refl

-- a number with its sign
pub signed-back : (limit : ℕ) (z : ℤ) → limit ≤ 2 ^ 31 → neg_ℤ (pos limit) ≤ℤ z → z <ℤ pos limit → signed_in limit (signed_text z) ≡ Ok z
signed-back limit (pos n) bound low high =
    let within : n < limit = omega (arith, ints, high) in
    ap (λ (r : Result ℕ TextFaultKind). and_then r (positive limit)) (decimal-back n (omega arith)) ∙ positive-back limit n within
signed-back limit (negsuc n) bound low high =
    let within : suc n ≤ limit = omega (arith, ints, low) in
    ap (λ (r : Result ℕ TextFaultKind). and_then r (negative limit)) (decimal-back (suc n) (omega arith)) ∙ negative-back limit n within
