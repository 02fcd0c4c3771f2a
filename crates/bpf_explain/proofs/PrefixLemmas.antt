-- An instruction's line is shorter than the column at which notes begin.
use Rattle.std.proofs.Common.{◌≡◌, ℕ, zero, suc, ◌+◌, ◌≤◌, ℤ, pos, negsuc, true, List, [], ◌∷◌, ◌++◌, length, get_or, refl, arith, length-append}
use Rattle.std.specs.Prelude.{codes, decimal, nat_le}
use Rattle.std.specs.Fmt.{signed_decimal}
use Rattle.std.specs.List.{list_all}
use Rattle.std.proofs.lemmas.Bool.{and_parts, leb-true}
use Rattle.std.proofs.lemmas.Bool.Decides.{nat_tests}
use Rattle.std.proofs.lemmas.Fmt.{length-decimal-le}
use Rattle.std.proofs.lemmas.Int.{ints}
use Rattle.bpf_insn.specs.Arithmetic.{wide_number}
use Rattle.bpf_insn.specs.declared.instruction.Insn.{Insn}
use Rattle.bpf_insn.specs.declared.instruction.Insn.TheVariants as insn
use Rattle.bpf_insn.specs.declared.instruction.JumpDistance.TheVariants as distance
use Rattle.bpf_insn.specs.declared.instruction.Source.{Source}
use Rattle.bpf_insn.specs.declared.instruction.Source.TheVariants as source
use Rattle.bpf_insn.specs.declared.register.Register.{Register}
use Rattle.bpf_text.proofs.ReadWideLemmas.{hexadecimal-length}
use Rattle.bpf_assembler.proofs.TableLemmas.{each-form}
use Rattle.bpf_assembler.specs.Mnemonic.{name_of}
use Rattle.bpf_assembler.specs.declared.mnemonic_form.MnemonicForm.{MnemonicForm}
use Rattle.bpf_assembler.specs.declared.mnemonic_form.MnemonicForm.TheVariants.{Alu, MoveSignExtended, Negate, ByteSwap, JumpIf, ShortJump, LongJump, Call}
use Rattle.bpf_assembler.specs.declared.mnemonic_form.MnemonicForm.TheVariants.{Exit, Load, StoreImmediate, Store, WideLoad}
use Rattle.bpf_assembler.specs.Number.{IsWithin, limit_of_16_bits, limit_of_32_bits}
use Rattle.bpf_assembler.specs.Operand.{register_name, register_names}
use Rattle.bpf_text.specs.CodeText.{NumbersFit, SourceFits, form_of, line_text, memory_text, operands_text, signed_text, source_text, three, two, wide_text}
use Rattle.listing_notes.specs.Facts.{prefix_text}
use Rattle.listing_lines.specs.declared.source_lines.TheConstants.{MAX_PLACE}

-- registers
find-short : (names : List (List ℕ)) (number : ℕ) → list_all (λ name. nat_le (length name) 3) names ≡ true → length (get_or names number []) ≤ 3
find-short [] number short = omega arith
find-short (name ∷ names) zero short =
    let test : nat_le (length name) 3 ≡ true = (and_parts (nat_le (length name) 3) (list_all (λ name. nat_le (length name) 3) names) short).0 in
    grind (arith, nat_tests)
find-short (name ∷ names) (suc number) short =
    find-short names number (and_parts (nat_le (length name) 3) (list_all (λ name. nat_le (length name) 3) names) short).1

register-short : (number : ℕ) → length (register_name number) ≤ 3
register-short number = find-short register_names number refl

-- numbers
decimal-short : (z : ℤ) → IsWithin limit_of_32_bits z → length (signed_decimal z) ≤ 11
decimal-short (pos n) within = let few = length-decimal-le 10 n (omega arith) (omega (arith, ints)) (omega (arith, ints)) in omega arith
decimal-short (negsuc n) within = let few = length-decimal-le 10 (suc n) (omega arith) (omega (arith, ints)) (omega (arith, ints)) in omega arith

signed-short : (z : ℤ) → IsWithin limit_of_16_bits z → length (signed_text z) ≤ 6
signed-short (pos n) within = let few = length-decimal-le 5 n (omega arith) (omega (arith, ints)) (omega (arith, ints)) in omega arith
signed-short (negsuc n) within = let few = length-decimal-le 5 (suc n) (omega arith) (omega (arith, ints)) (omega (arith, ints)) in omega arith

distance-short : (z : ℤ) → IsWithin limit_of_32_bits z → length (signed_text z) ≤ 11
distance-short (pos n) within = let few = length-decimal-le 10 n (omega arith) (omega (arith, ints)) (omega (arith, ints)) in omega arith
distance-short (negsuc n) within = let few = length-decimal-le 10 (suc n) (omega arith) (omega (arith, ints)) (omega (arith, ints)) in omega arith

source-short : (x : Source) → SourceFits x → length (source_text x) ≤ 11
source-short (source.Register register) fits = let short = register-short register.number in omega arith
source-short (source.Immediate value) fits = decimal-short value fits

-- operands
two-short : (a b : List ℕ) (m n : ℕ) → length a ≤ m → length b ≤ n → length (two a b) ≤ m + n + 3
two-short a b m n first_short then_short =
    let inner = length-append a (codes ", ") in let outer = length-append (a ++ codes ", ") b in omega arith

three-length : (a b c : List ℕ) → length (three a b c) ≡ length a + length b + length c + 5
three-length a b c =
    let e = length-append a (codes ", ") in let f = length-append (a ++ codes ", ") b in
    let g = length-append ((a ++ codes ", ") ++ b) (codes ", ") in let h = length-append (((a ++ codes ", ") ++ b) ++ codes ", ") c in omega arith

memory-short : (base : Register) (offset : ℤ) → IsWithin limit_of_16_bits offset → length (memory_text base offset) ≤ 11
memory-short base offset within =
    let name = register-short base.number in let number = signed-short offset within in
    let e = length-append (register_name base.number) (signed_text offset) in
    let f = length-append (register_name base.number ++ signed_text offset) (codes "]") in omega arith

-- the greatest length of the operands of a form
abbrev operands_limit : MnemonicForm → ℕ
operands_limit (Alu operation width) = 17
operands_limit (MoveSignExtended extension) = 9
operands_limit (Negate width) = 4
operands_limit (ByteSwap order width) = 4
operands_limit (JumpIf condition width) = 25
operands_limit ShortJump = 7
operands_limit LongJump = 12
operands_limit Call = 12
operands_limit Exit = 0
operands_limit (Load format) = 17
operands_limit (StoreImmediate size) = 25
operands_limit (Store size) = 17
operands_limit WideLoad = 24

form-short : (form : MnemonicForm) → length (name_of form) + operands_limit form ≤ 31
form-short form =
    leb-true (length (name_of form) + operands_limit form) 31
    (each-form (λ form. nat_le (length (name_of form) + operands_limit form) 31) refl form)

operands-short : (x : Insn) → NumbersFit x → length (operands_text x) ≤ operands_limit (form_of x)
operands-short (insn.Alu operation width destination from) fits =
    two-short (register_name destination.number) (source_text from) 3 11 (register-short destination.number) (source-short from fits)
operands-short (insn.MoveSignExtended extension destination from) fits =
    two-short (register_name destination.number) (register_name from.number) 3 3 (register-short destination.number) (register-short from.number)
operands-short (insn.Negate width destination) fits = let short = register-short destination.number in omega arith
operands-short (insn.ByteSwap order width destination) fits = let short = register-short destination.number in omega arith
operands-short (insn.JumpIf condition width left right offset) fits =
    let sum = three-length (register_name left.number) (source_text right) (signed_text offset) in
    let first_short = register-short left.number in let then_short = source-short right fits.0 in let last_short = signed-short offset fits.1 in
    omega arith
operands-short (insn.Jump (distance.Short offset)) fits = let short = signed-short offset fits in omega arith
operands-short (insn.Jump (distance.Long offset)) fits = let short = distance-short offset fits in omega arith
operands-short (insn.Call helper) fits = let short = decimal-short helper fits in omega arith
operands-short insn.Exit fits = omega arith
operands-short (insn.Load format destination base offset) fits =
    two-short (register_name destination.number) (memory_text base offset) 3 11 (register-short destination.number) (memory-short base offset fits)
operands-short (insn.StoreImmediate size base offset value) fits =
    two-short (memory_text base offset) (signed_decimal value) 11 11 (memory-short base offset fits.0) (decimal-short value fits.1)
operands-short (insn.Store size base offset from) fits =
    two-short (memory_text base offset) (register_name from.number) 11 3 (memory-short base offset fits) (register-short from.number)
operands-short (insn.WideLoad destination value next) fits =
    two-short (register_name destination.number) (wide_text (wide_number value next)) 3 18 (register-short destination.number)
    (let digits = hexadecimal-length 16 (wide_number value next) in omega arith)

line-short : (x : Insn) → NumbersFit x → length (line_text x) ≤ 31
line-short x fits =
    let sum = length-append (name_of (form_of x)) (operands_text x) in
    let operands = operands-short x fits in
    let form = form-short (form_of x) in omega arith

pub prefix-short : (place : ℕ) (x : Insn) → place ≤ MAX_PLACE → NumbersFit x → length (prefix_text place x) ≤ 38
prefix-short place x within fits =
    let digits = length-decimal-le 5 place (omega arith) (omega arith) (omega arith) in
    let line = line-short x fits in
    let e = length-append (decimal place) (codes ": ") in
    let f = length-append (decimal place ++ codes ": ") (line_text x) in
    omega arith
