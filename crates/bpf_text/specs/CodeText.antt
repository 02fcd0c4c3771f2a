-- The text of a code.
use Rattle.std.specs.Prelude.{ℕ, zero, suc, ℤ, pos, negsuc, ◌*◌, ◌/◌, ◌%◌, ◌^◌, List, [], ◌∷◌, ◌++◌, codes, decimal, ◌≡◌, true, nat_le, None, Ok}
use Rattle.std.specs.Fmt.{signed_decimal}
use Rattle.std.specs.List.{flat_map, list_all}
use Rattle.std.specs.Char.{digit_char}
use Rattle.bpf_insn.specs.Arithmetic.{wide_number}
use Rattle.bpf_insn.specs.declared.register.Register.{Register}
use Rattle.bpf_insn.specs.declared.instruction.Source.{Source}
use Rattle.bpf_insn.specs.declared.instruction.Source.TheVariants as source
use Rattle.bpf_insn.specs.declared.instruction.Insn.{Insn}
use Rattle.bpf_insn.specs.declared.instruction.Insn.TheVariants as insn
use Rattle.bpf_insn.specs.declared.instruction.JumpDistance.TheVariants as distance
use Rattle.bpf_assembler.specs.declared.mnemonic_form.MnemonicForm.{MnemonicForm}
use Rattle.bpf_assembler.specs.declared.mnemonic_form.MnemonicForm.TheVariants.{Alu, MoveSignExtended, Negate, ByteSwap, JumpIf, ShortJump, LongJump, Call, Exit}
use Rattle.bpf_assembler.specs.declared.mnemonic_form.MnemonicForm.TheVariants.{Load}
use Rattle.bpf_assembler.specs.declared.mnemonic_form.MnemonicForm.TheVariants.{StoreImmediate, Store, WideLoad}
use Rattle.bpf_assembler.specs.Statement.{Instruction, statement_in}
use Rattle.bpf_assembler.specs.Mnemonic.{name_of}
use Rattle.bpf_assembler.specs.Number.{IsWithin, limit_of_16_bits, limit_of_32_bits}
use Rattle.bpf_assembler.specs.Operand.{register_name}

-- a number with its sign
abbrev pub signed_text : ℤ → List ℕ
signed_text (pos amount) = 43 ∷ decimal amount
signed_text (negsuc less) = 45 ∷ decimal (suc less)

abbrev pub source_text : Source → List ℕ
source_text (source.Register register) = register_name register.number
source_text (source.Immediate value) = signed_decimal value

-- `[rB+N]`
abbrev pub memory_text : Register → ℤ → List ℕ
memory_text base offset = 91 ∷ register_name base.number ++ signed_text offset ++ codes "]"

-- a given number of hexadecimal digits, the most significant first
unfoldable pub hexadecimal : ℕ → ℕ → List ℕ
hexadecimal zero number = []
hexadecimal (suc more) number = digit_char (number / 2 ^ (4 * more) % 16) ∷ hexadecimal more number

abbrev pub wide_text : ℕ → List ℕ
wide_text number = codes "0x" ++ hexadecimal 16 number

-- the form of an instruction
abbrev pub form_of : Insn → MnemonicForm
form_of (insn.Alu operation width destination source) = Alu operation width
form_of (insn.MoveSignExtended extension destination source) = MoveSignExtended extension
form_of (insn.Negate width destination) = Negate width
form_of (insn.ByteSwap order width destination) = ByteSwap order width
form_of (insn.JumpIf condition width left right offset) = JumpIf condition width
form_of (insn.Jump (distance.Short offset)) = ShortJump
form_of (insn.Jump (distance.Long offset)) = LongJump
form_of (insn.Call helper) = Call
form_of insn.Exit = Exit
form_of (insn.Load format destination base offset) = Load format
form_of (insn.StoreImmediate size base offset value) = StoreImmediate size
form_of (insn.Store size base offset source) = Store size
form_of (insn.WideLoad destination value next) = WideLoad

-- operands, separated by a comma and a blank
abbrev pub one : List ℕ → List ℕ
one first = 32 ∷ first

abbrev pub two : List ℕ → List ℕ → List ℕ
two first second = 32 ∷ first ++ codes ", " ++ second

abbrev pub three : List ℕ → List ℕ → List ℕ → List ℕ
three first second third = 32 ∷ first ++ codes ", " ++ second ++ codes ", " ++ third

abbrev pub operands_text : Insn → List ℕ
operands_text (insn.Alu operation width destination source) = two (register_name destination.number) (source_text source)
operands_text (insn.MoveSignExtended extension destination source) = two (register_name destination.number) (register_name source.number)
operands_text (insn.Negate width destination) = one (register_name destination.number)
operands_text (insn.ByteSwap order width destination) = one (register_name destination.number)
operands_text (insn.JumpIf condition width left right offset) = three (register_name left.number) (source_text right) (signed_text offset)
operands_text (insn.Jump (distance.Short offset)) = one (signed_text offset)
operands_text (insn.Jump (distance.Long offset)) = one (signed_text offset)
operands_text (insn.Call helper) = one (signed_decimal helper)
operands_text insn.Exit = []
operands_text (insn.Load format destination base offset) = two (register_name destination.number) (memory_text base offset)
operands_text (insn.StoreImmediate size base offset value) = two (memory_text base offset) (signed_decimal value)
operands_text (insn.Store size base offset source) = two (memory_text base offset) (register_name source.number)
operands_text (insn.WideLoad destination value next) = two (register_name destination.number) (wide_text (wide_number value next))

-- an instruction's line, without its line end
abbrev pub line_text : Insn → List ℕ
line_text insn = name_of (form_of insn) ++ operands_text insn

-- one line for each instruction, each ended by LF
abbrev pub text_of : List Insn → List ℕ
text_of code = flat_map (λ insn. line_text insn ++ codes "\n") code

-- an instruction's numbers fit their fields (RFC 9669, section 3.1), as those of every code do
abbrev pub SourceFits : Source → Type 0
SourceFits (source.Register register) = Unit {0}
SourceFits (source.Immediate value) = IsWithin limit_of_32_bits value

abbrev pub NumbersFit : Insn → Type 0
NumbersFit (insn.Alu operation width destination source) = SourceFits source
NumbersFit (insn.JumpIf condition width left right offset) = SourceFits right × IsWithin limit_of_16_bits offset
NumbersFit (insn.Jump (distance.Short offset)) = IsWithin limit_of_16_bits offset
NumbersFit (insn.Jump (distance.Long offset)) = IsWithin limit_of_32_bits offset
NumbersFit (insn.Call helper) = IsWithin limit_of_32_bits helper
NumbersFit (insn.Load format destination base offset) = IsWithin limit_of_16_bits offset
NumbersFit (insn.StoreImmediate size base offset value) = IsWithin limit_of_16_bits offset × IsWithin limit_of_32_bits value
NumbersFit (insn.Store size base offset source) = IsWithin limit_of_16_bits offset
NumbersFit (insn.WideLoad destination value next) = IsWithin limit_of_32_bits value × IsWithin limit_of_32_bits next
NumbersFit insn = Unit {0}

-- an instruction whose line means the instruction, and contains no byte of a line end
pub record IsReadBack (insn : Insn) : Type 0 where
  pub printed : list_all (λ byte. nat_le 32 byte) (line_text insn) ≡ true
  pub means : statement_in (line_text insn) ≡ Ok (Instruction insn None)
