-- The form of an instruction, which its opcode determines.
use Rattle.std.proofs.Common.{◌≡◌, true, Some, refl}
use Rattle.bpf_insn.specs.Form.{first_word, form_opcode, opcode_form}
use Rattle.bpf_insn.specs.Opcode.{form_of}
use Rattle.bpf_insn.specs.declared.opcode_form.OpcodeForm.{OpcodeForm}
use Rattle.bpf_insn.specs.declared.opcode_form.OpcodeForm.TheVariants as form
use Rattle.bpf_insn.specs.declared.instruction.Insn.{Insn}
use Rattle.bpf_insn.specs.declared.instruction.Insn.TheVariants.{Alu, MoveSignExtended, Negate, ByteSwap, JumpIf, Jump, Load}
use Rattle.bpf_insn.specs.declared.instruction.Insn.TheVariants.{StoreImmediate, Store}
use Rattle.bpf_insn.specs.declared.instruction.Operation.{Operation}
use Rattle.bpf_insn.specs.declared.instruction.Operation.TheVariants.{Add, Divide, SignedDivide, Modulo, SignedModulo}
use Rattle.bpf_insn.specs.declared.instruction.Width.TheVariants.{Bits32}
use Rattle.bpf_insn.specs.declared.instruction.Source.TheVariants.{Immediate}
use Rattle.bpf_insn.specs.declared.instruction.SignExtension.TheVariants.{Bits8To32}
use Rattle.bpf_insn.specs.declared.instruction.ByteOrder.TheVariants.{LittleEndian}
use Rattle.bpf_insn.specs.declared.instruction.Condition.TheVariants.{Equal}
use Rattle.bpf_insn.specs.declared.instruction.JumpDistance.TheVariants.{Short, Long}
use Rattle.bpf_insn.specs.declared.instruction.LoadFormat.TheVariants as load
use Rattle.bpf_insn.specs.declared.instruction.StoreSize.TheVariants as store

abbrev pub unsigned : Operation → Operation
unsigned SignedDivide = Divide
unsigned SignedModulo = Modulo
unsigned operation = operation

abbrev unsigned_form : OpcodeForm → OpcodeForm
unsigned_form (form.Alu operation width from_register) = form.Alu (unsigned operation) width from_register
unsigned_form other = other

-- the form that an instruction's opcode has: signed operations have the code of unsigned ones
abbrev pub insn_form : Insn → OpcodeForm
insn_form insn = unsigned_form (opcode_form insn)

-- the form is found by the opcode
pub has_form : (insn : Insn) → form_of (first_word insn).opcode ≡ Some (insn_form insn)
has_form (Alu Add Bits32 d (Immediate v)) = refl
has_form (Alu operation Bits32 d (Immediate v)) = refl
has_form (Alu operation width d (Immediate v)) = refl
has_form (MoveSignExtended Bits8To32 d s) = refl
has_form (Negate Bits32 d) = refl
has_form (ByteSwap LittleEndian width d) = refl
has_form (JumpIf Equal Bits32 l (Immediate v) z) = refl
has_form (JumpIf condition Bits32 l (Immediate v) z) = refl
has_form (JumpIf condition width l (Immediate v) z) = refl
has_form (Jump (Short distance)) = refl
has_form (Load load.Word d b z) = refl
has_form (StoreImmediate store.Word b z v) = refl
has_form (Store store.Word b z s) = refl
has_form insn = refl

pub has_opcode : (insn : Insn) → form_opcode (opcode_form insn) ≡ (first_word insn).opcode
has_opcode (Alu operation width d s) = refl
has_opcode (Jump (Short distance)) = refl
has_opcode insn = refl
