-- The meaning of a line of program text.
use Rattle.std.specs.Prelude.{ℕ, ℤ, ◌-◌, ◌/◌, ◌%◌, ◌^◌, ◌==◌, if◌then◌else◌, List, length, take, slice_index, Option, Some, None, Result, Ok, Err}
use Rattle.std.specs.List.{list_all}
use Rattle.std.specs.Int.{cast_signed, w32}
use Rattle.bpf_insn.specs.declared.register.Register.{Register}
use Rattle.bpf_insn.specs.declared.register.WritableRegister.{WritableRegister}
use Rattle.bpf_insn.specs.declared.instruction.Source.{Source}
use Rattle.bpf_insn.specs.declared.instruction.Insn.{Insn}
use Rattle.bpf_insn.specs.declared.instruction.Insn.TheVariants as insn
use Rattle.bpf_insn.specs.declared.instruction.JumpDistance.TheVariants as distance
use Rattle.bpf_assembler.specs.declared.mnemonic_form.MnemonicForm.{MnemonicForm}
use Rattle.bpf_assembler.specs.declared.mnemonic_form.MnemonicForm.TheVariants.{Alu, MoveSignExtended, Negate, ByteSwap, JumpIf, ShortJump, LongJump, Call, Exit}
use Rattle.bpf_assembler.specs.declared.mnemonic_form.MnemonicForm.TheVariants.{Load}
use Rattle.bpf_assembler.specs.declared.mnemonic_form.MnemonicForm.TheVariants.{StoreImmediate, Store, WideLoad}
use Rattle.bpf_assembler.specs.declared.fault.TextFaultKind.{TextFaultKind}
use Rattle.bpf_assembler.specs.declared.fault.TextFaultKind.TheVariants.{Syntax, UnknownMnemonic}
use Rattle.bpf_assembler.specs.Words.{content_of, first_word, after_word, is_mnemonic_byte, is_label, split_operand}
use Rattle.bpf_assembler.specs.Number.{and_then, immediate_in, wide_in, limit_of_16_bits, limit_of_32_bits}
use Rattle.bpf_assembler.specs.Mnemonic.{form_named}
use Rattle.bpf_assembler.specs.Operand.{both, register_in, destination_of, source_in, memory_in, target_in}

-- The meaning of a line: nothing, a label, or an instruction. A jump to a label has distance 0 until the label is resolved.
pub data Statement : Type 0 where
  Blank : Statement
  Label : (name : List ℕ) → Statement
  Instruction : (insn : Insn) (target : Option (List ℕ)) → Statement

-- an instruction that names no label
abbrev pub plain : Insn → Result Statement TextFaultKind
plain insn = Ok (Instruction insn None)

-- an instruction that writes its first operand
abbrev pub writing : Register → (WritableRegister → Insn) → Result Statement TextFaultKind
writing register insn = and_then (destination_of register) (λ destination. plain (insn destination))

-- two or three operands
abbrev pub with_two : {A B : Type 0} → (List ℕ → Result A TextFaultKind) → (List ℕ → Result B TextFaultKind) → Option (List ℕ × List ℕ) → Result (A × B) TextFaultKind
with_two left right (Some parts) = both (left parts.0) (right parts.1)
with_two left right None = Err Syntax

abbrev pub two : {A B : Type 0} → (List ℕ → Result A TextFaultKind) → (List ℕ → Result B TextFaultKind) → List ℕ → Result (A × B) TextFaultKind
two left right operands = with_two left right (split_operand operands)

-- `rD, rS` or `rD, imm`
abbrev pub register_and_source : List ℕ → Result (Register × Source) TextFaultKind
register_and_source operands = two register_in source_in operands

abbrev pub comparands_and_target : List ℕ → Result (Register × (Source × (ℤ × Option (List ℕ)))) TextFaultKind
comparands_and_target operands = two register_in (two source_in (target_in limit_of_16_bits)) operands

-- the two halves of a wide load's number
abbrev pub low_half : ℕ → ℤ
low_half number = cast_signed w32 (number % 2 ^ 32)

abbrev pub high_half : ℕ → ℤ
high_half number = cast_signed w32 (number / 2 ^ 32)

-- The meaning of a form with its operands: one line for each row of the instruction table.
abbrev pub instruction_in : MnemonicForm → List ℕ → Result Statement TextFaultKind
instruction_in (Alu operation width) operands =
    and_then (register_and_source operands) (λ read. writing read.0 (λ destination. insn.Alu operation width destination read.1))
instruction_in (MoveSignExtended extension) operands =
    and_then (two register_in register_in operands) (λ read. writing read.0 (λ destination. insn.MoveSignExtended extension destination read.1))
instruction_in (Negate width) operands =
    and_then (register_in operands) (λ register. writing register (λ destination. insn.Negate width destination))
instruction_in (ByteSwap order width) operands =
    and_then (register_in operands) (λ register. writing register (λ destination. insn.ByteSwap order width destination))
instruction_in (JumpIf condition width) operands =
    and_then (comparands_and_target operands)
    (λ read. Ok (Instruction (insn.JumpIf condition width read.0 read.1.0 read.1.1.0) read.1.1.1))
instruction_in ShortJump operands =
    and_then (target_in limit_of_16_bits operands) (λ target. Ok (Instruction (insn.Jump (distance.Short target.0)) target.1))
instruction_in LongJump operands =
    and_then (target_in limit_of_32_bits operands) (λ target. Ok (Instruction (insn.Jump (distance.Long target.0)) target.1))
instruction_in Call operands = and_then (immediate_in operands) (λ helper. plain (insn.Call helper))
instruction_in Exit operands = if length operands == 0 then plain insn.Exit else Err Syntax
instruction_in (Load format) operands =
    and_then (two register_in memory_in operands) (λ read. writing read.0 (λ destination. insn.Load format destination read.1.0 read.1.1))
instruction_in (StoreImmediate size) operands =
    and_then (two memory_in immediate_in operands) (λ read. plain (insn.StoreImmediate size read.0.0 read.0.1 read.1))
instruction_in (Store size) operands =
    and_then (two memory_in register_in operands) (λ read. plain (insn.Store size read.0.0 read.0.1 read.1))
instruction_in WideLoad operands =
    and_then (two register_in wide_in operands) (λ read. writing read.0 (λ destination. insn.WideLoad destination (low_half read.1) (high_half read.1)))

-- the meaning of a mnemonic with its operands
abbrev pub instruction_with : Option MnemonicForm → List ℕ → Result Statement TextFaultKind
instruction_with (Some form) operands = instruction_in form operands
instruction_with None operands = Err UnknownMnemonic

abbrev pub instruction_of : List ℕ → Result Statement TextFaultKind
instruction_of content =
    if list_all is_mnemonic_byte (first_word content) then instruction_with (form_named (first_word content)) (after_word content) else Err Syntax

abbrev pub label_of : List ℕ → Result Statement TextFaultKind
label_of name = if is_label name then Ok (Label name) else Err Syntax

-- content that ends in a colon is a label or an error
abbrev pub statement_of : List ℕ → Result Statement TextFaultKind
statement_of content =
    if length content == 0 then Ok Blank
    else (if slice_index content (length content - 1) == 58 then label_of (take (length content - 1) content) else instruction_of content)

-- the meaning of a line, given without its line end
abbrev pub statement_in : List ℕ → Result Statement TextFaultKind
statement_in line = statement_of (content_of line)
