-- Each instruction's line is read back, row by row of the table.
use Rattle.std.proofs.Common.{◌≡◌, ℕ, ℤ, ◌≤◌, ◌<◌, ◌^◌, nat_le, true, ◌&&◌, not, List, ◌∷◌, ◌++◌, length, Option, None, Result, Ok, refl}
use Rattle.std.proofs.Common.{ap, ◌∙◌, arith}
use Rattle.std.specs.Prelude.{◌==◌, codes}
use Rattle.std.specs.List.{list_all}
use Rattle.std.proofs.lemmas.Bool.{and_parts, leb-true}
use Rattle.std.proofs.lemmas.Int.{ints, to_z-of_z}
use Rattle.std.proofs.lemmas.Nat.{mod-mul-add, div-mul-add}
use Rattle.std.proofs.Math.Facts.{Fits-of_z}
use Rattle.std.specs.Int.{cast_signed, cast_unsigned, w32}
use mir.Val.{SFits}
use Rattle.bpf_insn.specs.Arithmetic.{wide_number}
use Rattle.bpf_text.proofs.ReadWideLemmas.{wide-back, word-of-wide}
use Rattle.std.specs.Fmt.{signed_decimal}
use Rattle.std.proofs.lemmas.List.{append_assoc}
use Rattle.bpf_insn.specs.declared.register.Register.{Register}
use Rattle.bpf_insn.specs.declared.register.WritableRegister.{WritableRegister}
use Rattle.bpf_insn.specs.declared.instruction.Source.{Source}
use Rattle.bpf_insn.specs.declared.instruction.Source.TheVariants as source
use Rattle.bpf_insn.specs.declared.instruction.Insn.{Insn}
use Rattle.bpf_insn.specs.declared.instruction.Insn.TheVariants as insn
use Rattle.bpf_insn.specs.declared.instruction.JumpDistance.TheVariants as distance
use Rattle.bpf_assembler.specs.declared.mnemonic_form.MnemonicForm.{MnemonicForm}
use Rattle.bpf_assembler.specs.declared.fault.TextFaultKind.{TextFaultKind}
use Rattle.bpf_assembler.specs.declared.fault.TextFaultKind.TheVariants.{WritesFramePointer}
use Rattle.bpf_assembler.specs.Number.{and_then, immediate_in, wide_in, limit_of_16_bits, limit_of_32_bits, IsWithin}
use Rattle.bpf_assembler.specs.Words.{is_mnemonic_byte}
use Rattle.bpf_assembler.specs.Mnemonic.{name_of}
use Rattle.bpf_assembler.specs.Operand.{register_name, register_in, source_in, memory_in, target_in, or_fault}
use Rattle.bpf_assembler.specs.Statement.{Statement, Instruction, statement_in, instruction_with, instruction_in, plain, writing, two, low_half}
use Rattle.bpf_assembler.specs.Statement.{high_half}
use Rattle.bpf_text.specs.CodeText.{line_text, operands_text, form_of, source_text, signed_text, memory_text, wide_text, IsReadBack}
use Rattle.bpf_text.specs.CodeText.{NumbersFit, SourceFits}
use Rattle.bpf_assembler.proofs.OperandLemmas.{writable_at-same}
use Rattle.bpf_assembler.proofs.TableLemmas.{named, mnemonic}
use Rattle.bpf_text.proofs.ReadLemmas.{all-by, all-append}
use Rattle.bpf_text.proofs.ReadLineLemmas.{IsWord, AreOperands, one-operand, more-operands, two-operands, read-line, is_line_byte}
use Rattle.bpf_text.proofs.ReadLineLemmas.{mnemonic-is-line}
use Rattle.bpf_text.proofs.ReadRegisterLemmas.{word-of-register, register-back, source-register-back}
use Rattle.bpf_text.proofs.ReadValueLemmas.{immediate-back, word-of-immediate, word-of-signed, source-immediate-back, target-back}
use Rattle.bpf_text.proofs.ReadValueLemmas.{memory-back, word-of-memory}

line-is-printed : (byte : ℕ) → is_line_byte byte ≡ true → nat_le 32 byte ≡ true
line-is-printed byte is = (and_parts (nat_le 32 byte) (not (byte == 58))
    (and_parts (nat_le 32 byte && not (byte == 58)) (not (byte == 59)) is).0).0

-- an instruction with operands
with-operands : (i : Insn) (ops : List ℕ) → AreOperands ops → operands_text i ≡ 32 ∷ ops
    → instruction_in (form_of i) ops ≡ Ok (Instruction i None) → IsReadBack i
with-operands i ops operands text means =
    let form = form_of i in
    let table = and_parts (nat_le 1 (length (name_of form))) (list_all is_mnemonic_byte (name_of form)) (mnemonic form) in
    let line : line_text i ≡ name_of form ++ 32 ∷ ops = ap (λ (t : List ℕ). name_of form ++ t) text in
    let bytes : list_all is_line_byte (name_of form ++ 32 ∷ ops) ≡ true =
    all-append is_line_byte (name_of form) (32 ∷ ops) (mnemonic-is-line (name_of form) table.1) operands.bytes in
    record {
      printed = ap (list_all (λ byte. nat_le 32 byte)) line ∙ all-by is_line_byte (λ byte. nat_le 32 byte) line-is-printed
          (name_of form ++ 32 ∷ ops) bytes;
      means = ap statement_in line ∙ read-line (name_of form) ops (leb-true 1 (length (name_of form)) table.0) table.1 operands
          ∙ ap (λ (o : Option MnemonicForm). instruction_with o ops) (named form) ∙ means;
    }

-- a register that is written
ten : (number : ℕ) → number ≤ 9 → number ≤ 10
ten number low = omega arith

abbrev as_register : WritableRegister → Register
as_register d = record { number = d.number; in_range = ten d.number d.in_range }

writes-back : (d : WritableRegister) (made : WritableRegister → Insn) → writing (as_register d) made ≡ Ok (Instruction (made d) None)
writes-back d made = ap (λ (o : Option WritableRegister). and_then (or_fault WritesFramePointer o) (λ x. plain (made x)))
    (writable_at-same d)

source-back : (s : Source) → SourceFits s → source_in (source_text s) ≡ Ok s
source-back (source.Register r) fits = source-register-back r
source-back (source.Immediate v) fits = source-immediate-back v fits.0 fits.1

word-of-source : (s : Source) → SourceFits s → IsWord (source_text s)
word-of-source (source.Register r) fits = word-of-register r
word-of-source (source.Immediate v) fits = word-of-immediate v fits.0 fits.1

wider : (v : ℤ) → IsWithin limit_of_16_bits v → IsWithin limit_of_32_bits v
wider v within = (omega (arith, ints, within.0), omega (arith, ints, within.1))

abbrev comma : List ℕ → List ℕ → List ℕ
comma first second = (first ++ codes ", ") ++ second

alu-back : (i : Insn) (d : WritableRegister) (s : Source) (made : WritableRegister → Source → Insn) → SourceFits s
    → and_then (two register_in source_in (comma (register_name d.number) (source_text s)))
    (λ read. writing read.0 (λ x. made x read.1)) ≡ Ok (Instruction (made d s) None)
alu-back i d s made fits =
    ap (λ (r : Result (Register × Source) TextFaultKind). and_then r (λ read. writing read.0 (λ x. made x read.1)))
    (two-operands register_in source_in (word-of-register (as_register d)) (one-operand (source_text s) (word-of-source s fits))
    (register-back (as_register d)) (source-back s fits)) ∙ writes-back d (λ x. made x s)

operands-of : (first second : List ℕ) → IsWord first → IsWord second → AreOperands (comma first second)
operands-of first second a b = more-operands first second a (one-operand second b)

fits-32 : (v : ℤ) → IsWithin limit_of_32_bits v → SFits w32 v
fits-32 v within = omega (arith, ints, within.0, within.1)

half-32 : (v : ℤ) → SFits w32 v → cast_unsigned w32 v < 2 ^ 32
half-32 v fits = let bound = Fits-of_z fits in omega (arith, bound)

three-parts : (first second third : List ℕ) → ((first ++ codes ", " ++ second) ++ codes ", ") ++ third ≡ comma first (comma second third)
three-parts first second third = simp append_assoc

pub read-back : (i : Insn) → NumbersFit i → IsReadBack i
read-back (insn.Alu op width d s) fits =
    with-operands (insn.Alu op width d s) (comma (register_name d.number) (source_text s))
    (operands-of _ _ (word-of-register (as_register d)) (word-of-source s fits)) refl
    (alu-back (insn.Alu op width d s) d s (insn.Alu op width) fits)
read-back (insn.MoveSignExtended extension d s) fits =
    with-operands (insn.MoveSignExtended extension d s) (comma (register_name d.number) (register_name s.number))
    (operands-of _ _ (word-of-register (as_register d)) (word-of-register s)) refl
    (ap (λ (r : Result (Register × Register) TextFaultKind). and_then r (λ read. writing read.0 (λ x. insn.MoveSignExtended extension x read.1)))
    (two-operands register_in register_in (word-of-register (as_register d)) (one-operand _ (word-of-register s))
    (register-back (as_register d)) (register-back s)) ∙ writes-back d (λ x. insn.MoveSignExtended extension x s))
read-back (insn.Negate width d) fits =
    with-operands (insn.Negate width d) (register_name d.number) (one-operand _ (word-of-register (as_register d))) refl
    (ap (λ (r : Result Register TextFaultKind). and_then r (λ register. writing register (λ x. insn.Negate width x)))
    (register-back (as_register d)) ∙ writes-back d (insn.Negate width))
read-back (insn.ByteSwap order width d) fits =
    with-operands (insn.ByteSwap order width d) (register_name d.number) (one-operand _ (word-of-register (as_register d))) refl
    (ap (λ (r : Result Register TextFaultKind). and_then r (λ register. writing register (λ x. insn.ByteSwap order width x)))
    (register-back (as_register d)) ∙ writes-back d (insn.ByteSwap order width))
read-back (insn.JumpIf condition width left right offset) fits =
    let target : IsWord (signed_text offset) = word-of-signed offset (wider offset fits.1).0 (wider offset fits.1).1 in
    let source : IsWord (source_text right) = word-of-source right fits.0 in
    let rest : two source_in (target_in limit_of_16_bits) (comma (source_text right) (signed_text offset)) ≡ Ok (right, (offset, None)) =
    two-operands source_in (target_in limit_of_16_bits) source (one-operand _ target) (source-back right fits.0)
    (target-back limit_of_16_bits offset (omega arith) fits.1.0 fits.1.1) in
    with-operands (insn.JumpIf condition width left right offset)
    (comma (register_name left.number) (comma (source_text right) (signed_text offset)))
    (more-operands _ _ (word-of-register left) (operands-of _ _ source target))
    (ap (λ (l : List ℕ). 32 ∷ l) (three-parts (register_name left.number) (source_text right) (signed_text offset)))
    (ap (λ (r : Result (Register × (Source × (ℤ × Option (List ℕ)))) TextFaultKind). and_then r
    (λ read. Ok (Instruction (insn.JumpIf condition width read.0 read.1.0 read.1.1.0) read.1.1.1)))
    (two-operands register_in (two source_in (target_in limit_of_16_bits)) (word-of-register left) (operands-of _ _ source target)
    (register-back left) rest))
read-back (insn.Jump (distance.Short offset)) fits =
    with-operands (insn.Jump (distance.Short offset)) (signed_text offset)
    (one-operand _ (word-of-signed offset (wider offset fits).0 (wider offset fits).1)) refl
    (ap (λ (r : Result (ℤ × Option (List ℕ)) TextFaultKind). and_then r
    (λ target. Ok (Instruction (insn.Jump (distance.Short target.0)) target.1)))
    (target-back limit_of_16_bits offset (omega arith) fits.0 fits.1))
read-back (insn.Jump (distance.Long offset)) fits =
    with-operands (insn.Jump (distance.Long offset)) (signed_text offset) (one-operand _ (word-of-signed offset fits.0 fits.1)) refl
    (ap (λ (r : Result (ℤ × Option (List ℕ)) TextFaultKind). and_then r
    (λ target. Ok (Instruction (insn.Jump (distance.Long target.0)) target.1)))
    (target-back limit_of_32_bits offset (omega arith) fits.0 fits.1))
read-back (insn.Call helper) fits =
    with-operands (insn.Call helper) (signed_decimal helper) (one-operand _ (word-of-immediate helper fits.0 fits.1)) refl
    (ap (λ (r : Result ℤ TextFaultKind). and_then r (λ h. plain (insn.Call h))) (immediate-back helper fits.0 fits.1))
read-back insn.Exit fits = record { printed = refl; means = refl }
read-back (insn.Load format d base offset) fits =
    with-operands (insn.Load format d base offset) (comma (register_name d.number) (memory_text base offset))
    (operands-of _ _ (word-of-register (as_register d)) (word-of-memory base offset (wider offset fits).0 (wider offset fits).1)) refl
    (ap (λ (r : Result (Register × (Register × ℤ)) TextFaultKind). and_then r
    (λ read. writing read.0 (λ x. insn.Load format x read.1.0 read.1.1)))
    (two-operands register_in memory_in (word-of-register (as_register d))
    (one-operand _ (word-of-memory base offset (wider offset fits).0 (wider offset fits).1)) (register-back (as_register d))
    (memory-back base offset fits.0 fits.1)) ∙ writes-back d (λ x. insn.Load format x base offset))
read-back (insn.StoreImmediate size base offset value) fits =
    with-operands (insn.StoreImmediate size base offset value) (comma (memory_text base offset) (signed_decimal value))
    (operands-of _ _ (word-of-memory base offset (wider offset fits.0).0 (wider offset fits.0).1)
    (word-of-immediate value fits.1.0 fits.1.1)) refl
    (ap (λ (r : Result ((Register × ℤ) × ℤ) TextFaultKind). and_then r (λ read. plain (insn.StoreImmediate size read.0.0 read.0.1 read.1)))
    (two-operands memory_in immediate_in (word-of-memory base offset (wider offset fits.0).0 (wider offset fits.0).1)
    (one-operand _ (word-of-immediate value fits.1.0 fits.1.1)) (memory-back base offset fits.0.0 fits.0.1)
    (immediate-back value fits.1.0 fits.1.1)))
read-back (insn.Store size base offset s) fits =
    with-operands (insn.Store size base offset s) (comma (memory_text base offset) (register_name s.number))
    (operands-of _ _ (word-of-memory base offset (wider offset fits).0 (wider offset fits).1) (word-of-register s)) refl
    (ap (λ (r : Result ((Register × ℤ) × Register) TextFaultKind). and_then r (λ read. plain (insn.Store size read.0.0 read.0.1 read.1)))
    (two-operands memory_in register_in (word-of-memory base offset (wider offset fits).0 (wider offset fits).1)
    (one-operand _ (word-of-register s)) (memory-back base offset fits.0 fits.1) (register-back s)))
read-back (insn.WideLoad d value next) fits =
    let number = wide_number value next in
    let value_fits = fits-32 value fits.0 in
    let next_fits = fits-32 next fits.1 in
    let low = half-32 value value_fits in
    let high = half-32 next next_fits in
    let small : number < 2 ^ 64 = omega (arith, low, high) in
    let low_is : low_half number ≡ value = ap (cast_signed w32)
    (mod-mul-add (cast_unsigned w32 next) (2 ^ 32) (cast_unsigned w32 value) low) ∙ to_z-of_z w32 value value_fits in
    let high_is : high_half number ≡ next = ap (cast_signed w32)
    (div-mul-add (cast_unsigned w32 next) (2 ^ 32) (cast_unsigned w32 value) low) ∙ to_z-of_z w32 next next_fits in
    with-operands (insn.WideLoad d value next) (comma (register_name d.number) (wide_text number))
    (operands-of _ _ (word-of-register (as_register d)) (word-of-wide number)) refl
    (ap (λ (r : Result (Register × ℕ) TextFaultKind). and_then r
    (λ read. writing read.0 (λ x. insn.WideLoad x (low_half read.1) (high_half read.1))))
    (two-operands register_in wide_in (word-of-register (as_register d)) (one-operand _ (word-of-wide number))
    (register-back (as_register d)) (wide-back number small)) ∙ writes-back d (λ x. insn.WideLoad x (low_half number) (high_half number))
    ∙ ap (λ (v : ℤ). let r : Result Statement TextFaultKind = Ok (Instruction (insn.WideLoad d v (high_half number)) None) in r) low_is
    ∙ ap (λ (v : ℤ). let r : Result Statement TextFaultKind = Ok (Instruction (insn.WideLoad d value v) None) in r) high_is)
