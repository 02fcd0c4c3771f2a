-- Arithmetic with a pointer that is refused: the operation, and which of two facts fails.
use Rattle.std.specs.Prelude.{ℕ, Bool, true, false, ◌&&◌, ◌||◌, not, List, [], ◌++◌, codes}
use Rattle.bpf_assembler.specs.Mnemonic.{name_of}
use Rattle.bpf_assembler.specs.declared.mnemonic_form.MnemonicForm.TheVariants as form
use Rattle.bpf_insn.specs.declared.instruction.Insn.{Insn}
use Rattle.bpf_insn.specs.declared.instruction.Insn.TheVariants.{Alu, MoveSignExtended, Negate, ByteSwap}
use Rattle.bpf_insn.specs.declared.instruction.Operation.{Operation}
use Rattle.bpf_insn.specs.declared.instruction.Operation.TheVariants.{Add, Subtract}
use Rattle.bpf_insn.specs.declared.instruction.Source.{Source}
use Rattle.bpf_insn.specs.declared.instruction.Source.TheVariants as source
use Rattle.bpf_insn.specs.declared.instruction.Width.TheVariants.{Bits64}
use Rattle.bpf_kinds.specs.declared.kind.Kind.{Kind}
use Rattle.bpf_kinds.specs.declared.kind.Kind.TheVariants.{Number}
use Rattle.bpf_verify.specs.LiftedState.{kind_of}
use Rattle.bpf_verify.specs.declared.abstract_state.AbstractState.{AbstractState}

-- the mnemonic of an arithmetic instruction
unfoldable pub operation_name : Insn → List ℕ
operation_name (Alu operation width destination from) = name_of (form.Alu operation width)
operation_name (MoveSignExtended extension destination from) = name_of (form.MoveSignExtended extension)
operation_name (Negate width destination) = name_of (form.Negate width)
operation_name (ByteSwap order width destination) = name_of (form.ByteSwap order width)
operation_name insn = []

abbrev pub is_number : Kind → Bool
is_number (Number x) = true
is_number kind = false

unfoldable pub is_number_in : AbstractState → ℕ → Bool
is_number_in known register = is_number (kind_of known register)

abbrev pub is_number_from : AbstractState → Source → Bool
is_number_from known (source.Register register) = is_number_in known register.number
is_number_from known (source.Immediate value) = true

-- an operation that moves a pointer by a number, as 64-bit `add` and `sub` do, given which of two operands are numbers and that one is a pointer
abbrev pub moves_pointer : Operation → Bool → Bool → Bool
moves_pointer Add left right = left || right
moves_pointer Subtract left right = right
moves_pointer operation left right = false

-- an instruction moves a pointer by a number
unfoldable pub moves : AbstractState → Insn → Bool
moves known (Alu operation Bits64 destination from) =
    moves_pointer operation (is_number_in known destination.number) (is_number_from known from)
moves known insn = false

abbrev pub arithmetic_words : Bool → List ℕ
arithmetic_words true = codes " moves a pointer only by a number from -32768 to 32767: "
arithmetic_words false = codes " of a pointer, which is only copied by mov, or moved by add or sub of a number: "

-- the operation, and the fact that fails
unfoldable pub arithmetic_text : AbstractState → Insn → List ℕ
arithmetic_text known insn = operation_name insn ++ arithmetic_words (moves known insn)
