-- The instruction table by opcodes (RFC 9669, sections 3 to 5): the form of an opcode, and the fields that the form uses.
use Rattle.std.specs.Prelude.{ℕ, ◌/◌, ◌%◌, ◌==◌, ◌&&◌, ◌||◌, Bool, true, find, List, [], ◌∷◌, Option, Some, None, option_map, if◌then◌else◌, false}
use Rattle.bpf_insn.specs.Form.{operation_code, condition_code, form_opcode, opcode_form, first_word}
use Rattle.bpf_insn.specs.Row.{uses}
use Rattle.bpf_insn.specs.declared.opcode_form.OpcodeForm.{OpcodeForm}
use Rattle.bpf_insn.specs.declared.opcode_form.OpcodeForm.TheVariants.{Alu, Negate, ByteSwap, JumpIf, ShortJump, LongJump, Call, Exit, Load, StoreImmediate, Store, WideLoad}
use Rattle.bpf_insn.specs.declared.opcode_form.TheConstants.{OPERATIONS, CONDITIONS, FORMS}
use Rattle.bpf_insn.specs.declared.row.Row.{Row}
use Rattle.bpf_insn.specs.declared.row.Destination.TheVariants.{Nothing, Read, Written}
use Rattle.bpf_insn.specs.declared.row.Use.{Use}
use Rattle.bpf_insn.specs.declared.row.Use.TheVariants.{Unused, Any, ZeroOrOne, MoveBits, SwapBits}
use Rattle.bpf_insn.specs.declared.instruction.Insn.{Insn}
use Rattle.bpf_insn.specs.declared.instruction.Operation.{Operation}
use Rattle.bpf_insn.specs.declared.instruction.Operation.TheVariants.{Divide, SignedDivide, Modulo, SignedModulo, Move}
use Rattle.bpf_insn.specs.declared.instruction.Width.{Width}
use Rattle.bpf_insn.specs.declared.instruction.Width.TheVariants.{Bits32, Bits64}

-- instructions with two operands, by their class: ALU, ALU64, JMP32 and JMP (section 3.3)
abbrev pub operand_form : ℕ → ℕ → Bool → Option OpcodeForm
operand_form class code from_register =
    if class == 4 then option_map (λ operation. Alu operation Bits32 from_register) (find (λ o. operation_code o == code) OPERATIONS)
    else (if class == 7 then option_map (λ operation. Alu operation Bits64 from_register) (find (λ o. operation_code o == code) OPERATIONS)
    else (if class == 6 then option_map (λ condition. JumpIf condition Bits32 from_register) (find (λ c. condition_code c == code) CONDITIONS)
    else (if class == 5 then option_map (λ condition. JumpIf condition Bits64 from_register) (find (λ c. condition_code c == code) CONDITIONS)
    else None)))

abbrev pub or_else : Option OpcodeForm → Option OpcodeForm → Option OpcodeForm
or_else None form = form
or_else (Some form) other = Some form

-- the form of an opcode, if it has one: a form with two operands, in which the source bit selects the second one, 0 (K) the immediate and 1 (X) the
-- source register (section 4), or one of the other forms
abbrev pub form_of : ℕ → Option OpcodeForm
form_of opcode = or_else (operand_form (opcode % 8) (opcode / 16) (opcode / 8 % 2 == 1)) (find (λ form. form_opcode form == opcode) FORMS)

-- the opcodes of instructions in the conformance groups base32, base64, divmul32 and divmul64 (appendix A), in ascending order
abbrev pub opcodes : List ℕ
opcodes =
    0x04 ∷ 0x05 ∷ 0x06 ∷ 0x07 ∷ 0x0c ∷ 0x0f
    ∷ 0x14 ∷ 0x15 ∷ 0x16 ∷ 0x17 ∷ 0x18 ∷ 0x1c ∷ 0x1d ∷ 0x1e ∷ 0x1f
    ∷ 0x24 ∷ 0x25 ∷ 0x26 ∷ 0x27 ∷ 0x2c ∷ 0x2d ∷ 0x2e ∷ 0x2f
    ∷ 0x34 ∷ 0x35 ∷ 0x36 ∷ 0x37 ∷ 0x3c ∷ 0x3d ∷ 0x3e ∷ 0x3f
    ∷ 0x44 ∷ 0x45 ∷ 0x46 ∷ 0x47 ∷ 0x4c ∷ 0x4d ∷ 0x4e ∷ 0x4f
    ∷ 0x54 ∷ 0x55 ∷ 0x56 ∷ 0x57 ∷ 0x5c ∷ 0x5d ∷ 0x5e ∷ 0x5f
    ∷ 0x61 ∷ 0x62 ∷ 0x63 ∷ 0x64 ∷ 0x65 ∷ 0x66 ∷ 0x67 ∷ 0x69 ∷ 0x6a ∷ 0x6b ∷ 0x6c ∷ 0x6d ∷ 0x6e ∷ 0x6f
    ∷ 0x71 ∷ 0x72 ∷ 0x73 ∷ 0x74 ∷ 0x75 ∷ 0x76 ∷ 0x77 ∷ 0x79 ∷ 0x7a ∷ 0x7b ∷ 0x7c ∷ 0x7d ∷ 0x7e ∷ 0x7f
    ∷ 0x81 ∷ 0x84 ∷ 0x85 ∷ 0x87 ∷ 0x89
    ∷ 0x91 ∷ 0x94 ∷ 0x95 ∷ 0x97 ∷ 0x9c ∷ 0x9f
    ∷ 0xa4 ∷ 0xa5 ∷ 0xa6 ∷ 0xa7 ∷ 0xac ∷ 0xad ∷ 0xae ∷ 0xaf
    ∷ 0xb4 ∷ 0xb5 ∷ 0xb6 ∷ 0xb7 ∷ 0xbc ∷ 0xbd ∷ 0xbe ∷ 0xbf
    ∷ 0xc4 ∷ 0xc5 ∷ 0xc6 ∷ 0xc7 ∷ 0xcc ∷ 0xcd ∷ 0xce ∷ 0xcf
    ∷ 0xd4 ∷ 0xd5 ∷ 0xd6 ∷ 0xd7 ∷ 0xdc ∷ 0xdd ∷ 0xde ∷ []

-- how an operation uses the offset: it distinguishes signed from unsigned division, and is the number of bits of a register that are moved
abbrev pub offset_use : Operation → Width → Bool → Use
offset_use Divide width from_register = ZeroOrOne
offset_use SignedDivide width from_register = ZeroOrOne
offset_use Modulo width from_register = ZeroOrOne
offset_use SignedModulo width from_register = ZeroOrOne
offset_use Move width true = MoveBits width
offset_use operation width from_register = Unused

-- a second operand is either the immediate or a register
abbrev pub immediate_use : Bool → Use
immediate_use from_register = if from_register then Unused else Any

-- the fields that a form uses: how it uses the destination, whether it uses the source, and how it uses the offset and the immediate
abbrev pub row : OpcodeForm → Row
row (Alu operation width from_register) = uses Written from_register (offset_use operation width from_register) (immediate_use from_register)
row (Negate width) = uses Written false Unused Unused
row (ByteSwap order) = uses Written false Unused SwapBits
row (JumpIf condition width from_register) = uses Read from_register Any (immediate_use from_register)
row ShortJump = uses Nothing false Any Unused
row LongJump = uses Nothing false Unused Any
row Call = uses Nothing false Unused Any
row Exit = uses Nothing false Unused Unused
row (Load format) = uses Written true Any Unused
row (StoreImmediate size) = uses Read false Any Any
row (Store size) = uses Read true Any Unused
row WideLoad = uses Written false Unused Any

-- a form whose instructions read the register in the destination field; a move only writes it
abbrev pub reads_destination : OpcodeForm → Bool
reads_destination (Alu Move width from_register) = false
reads_destination (Alu operation width from_register) = true
reads_destination (Negate width) = true
reads_destination (ByteSwap order) = true
reads_destination (JumpIf condition width from_register) = true
reads_destination (StoreImmediate size) = true
reads_destination (Store size) = true
reads_destination form = false

-- an instruction reads a register that its fields name
abbrev pub reads_named : Insn → ℕ → Bool
reads_named insn register =
    (reads_destination (opcode_form insn) && register == (first_word insn).destination)
    || ((row (opcode_form insn)).uses_source && register == (first_word insn).source)
