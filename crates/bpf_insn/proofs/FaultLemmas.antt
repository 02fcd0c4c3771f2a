-- The words that spell an instruction have no fault.
use Rattle.std.proofs.Common.{◌≡◌, ◌==◌, nat_lt, Bool, true, false, ℤ, pos, List, ◌++◌, None, Some, Option, refl, ap, ◌∙◌, arith}
use Rattle.std.proofs.lemmas.Bool.Decides.{nat_tests}
use Rattle.bpf_insn.specs.Form.{word, swap_bits, operation_offset, first_word, further_words}
use Rattle.bpf_insn.specs.Row.{uses, fault, is_bad_width, is_disallowed}
use Rattle.bpf_insn.specs.Opcode.{offset_use}
use Rattle.bpf_insn.specs.Fault.{form_fault, first_fault}
use Rattle.bpf_insn.proofs.FormLemmas.{insn_form, unsigned, has_form}
use Rattle.bpf_insn.specs.declared.row.Destination.TheVariants.{Read, Written}
use Rattle.bpf_insn.specs.declared.row.Use.{Use}
use Rattle.bpf_insn.specs.declared.row.Use.TheVariants.{Unused, Any, MoveBits, SwapBits}
use Rattle.bpf_insn.specs.declared.opcode_form.OpcodeForm.{OpcodeForm}
use Rattle.bpf_insn.specs.declared.word.Word.{Word}
use Rattle.bpf_insn.specs.declared.register.Register.{Register as RegisterNumber}
use Rattle.bpf_insn.specs.declared.register.WritableRegister.{WritableRegister}
use Rattle.bpf_insn.specs.declared.instruction.Insn.{Insn}
use Rattle.bpf_insn.specs.declared.instruction.Insn.TheVariants.{Alu, MoveSignExtended, Negate, ByteSwap, JumpIf, Jump, Load}
use Rattle.bpf_insn.specs.declared.instruction.Insn.TheVariants.{StoreImmediate, Store, WideLoad}
use Rattle.bpf_insn.specs.declared.instruction.Operation.{Operation}
use Rattle.bpf_insn.specs.declared.instruction.Operation.TheVariants.{Move}
use Rattle.bpf_insn.specs.declared.instruction.Width.{Width}
use Rattle.bpf_insn.specs.declared.instruction.Width.TheVariants.{Bits32, Bits64}
use Rattle.bpf_insn.specs.declared.instruction.Source.TheVariants.{Immediate, Register}
use Rattle.bpf_insn.specs.declared.instruction.SignExtension.TheVariants.{Bits8To32, Bits16To32, Bits8To64, Bits16To64, Bits32To64}
use Rattle.bpf_insn.specs.declared.instruction.SwapWidth.{SwapWidth}
use Rattle.bpf_insn.specs.declared.instruction.SwapWidth.TheVariants as swap
use Rattle.bpf_insn.specs.declared.instruction.JumpDistance.TheVariants.{Short}

-- registers in their fields
no_bad_register : (d : WritableRegister) → nat_lt 10 d.number ≡ false
no_bad_register d = let h = d.in_range in grind (arith, nat_tests)

not_frame_pointer : (d : WritableRegister) → (d.number == 10) ≡ false
not_frame_pointer d = let h = d.in_range in grind (arith, nat_tests)

no_bad_operand : (r : RegisterNumber) → nat_lt 10 r.number ≡ false
no_bad_operand r = let h = r.in_range in grind (arith, nat_tests)

-- the values that a field may have
abbrev Fits : Use → ℤ → Type 0
Fits usage z = (is_bad_width usage z ≡ false) × (is_disallowed usage z ≡ false)

-- the rows that write a register, and those that read it; what they say of a word doesn't depend on its opcode
writes : (offset immediate : Use) (d : WritableRegister) (z v : ℤ) → Fits offset z → Fits immediate v
    → fault (uses Written false offset immediate) (word 0 d.number 0 z v) ≡ None
writes offset immediate d z v here there = rw (no_bad_register d, not_frame_pointer d, here.0, there.0, here.1, there.1) refl

writes_with : (offset : Use) (d : WritableRegister) (s : RegisterNumber) (z : ℤ) → Fits offset z
    → fault (uses Written true offset Unused) (word 0 d.number s.number z (pos 0)) ≡ None
writes_with offset d s z here = rw (no_bad_register d, no_bad_operand s, not_frame_pointer d, here.0, here.1) refl

reads : (r : RegisterNumber) (z v : ℤ) → fault (uses Read false Any Any) (word 0 r.number 0 z v) ≡ None
reads r z v = rw (no_bad_operand r) refl

reads_with : (r s : RegisterNumber) (z : ℤ) → fault (uses Read true Any Unused) (word 0 r.number s.number z (pos 0)) ≡ None
reads_with r s z = rw (no_bad_operand r, no_bad_operand s) refl

-- an operation's offset is a value in use
offset_fits : (operation : Operation) (width : Width) (from_register : Bool)
    → Fits (offset_use (unsigned operation) width from_register) (operation_offset operation)
offset_fits Move Bits32 true = (refl, refl)
offset_fits Move Bits64 true = (refl, refl)
offset_fits operation width from_register = (refl, refl)

-- a byte swap's width is one of three
swap_width : (width : SwapWidth) → Fits SwapBits (swap_bits width)
swap_width swap.Bits16 = (refl, refl)
swap_width swap.Bits32 = (refl, refl)
swap_width swap.Bits64 = (refl, refl)

by_form : (insn : Insn) (rest : List Word) → form_fault (Some (insn_form insn)) (first_word insn) (further_words insn ++ rest) ≡ None
by_form (Alu operation width d (Immediate v)) rest =
    writes (offset_use (unsigned operation) width false) Any d (operation_offset operation) v
    (offset_fits operation width false) (refl, refl)
by_form (Alu operation width d (Register s)) rest =
    writes_with (offset_use (unsigned operation) width true) d s (operation_offset operation) (offset_fits operation width true)
by_form (MoveSignExtended Bits8To32 d s) rest = writes_with (MoveBits Bits32) d s (pos 8) (refl, refl)
by_form (MoveSignExtended Bits16To32 d s) rest = writes_with (MoveBits Bits32) d s (pos 16) (refl, refl)
by_form (MoveSignExtended Bits8To64 d s) rest = writes_with (MoveBits Bits64) d s (pos 8) (refl, refl)
by_form (MoveSignExtended Bits16To64 d s) rest = writes_with (MoveBits Bits64) d s (pos 16) (refl, refl)
by_form (MoveSignExtended Bits32To64 d s) rest = writes_with (MoveBits Bits64) d s (pos 32) (refl, refl)
by_form (Negate width d) rest = writes Unused Unused d (pos 0) (pos 0) (refl, refl) (refl, refl)
by_form (ByteSwap order width d) rest = writes Unused SwapBits d (pos 0) (swap_bits width) (refl, refl) (swap_width width)
by_form (JumpIf condition width r (Immediate v) z) rest = reads r z v
by_form (JumpIf condition width r (Register s) z) rest = reads_with r s z
by_form (Load format d b z) rest = writes_with Any d b z (refl, refl)
by_form (StoreImmediate size b z v) rest = reads b z v
by_form (Store size b z s) rest = reads_with b s z
by_form (WideLoad d v next) rest = rw (writes Unused Any d (pos 0) v (refl, refl) (refl, refl)) refl
by_form (Jump (Short distance)) rest = refl
by_form insn rest = refl

-- the words that spell an instruction have no fault, whatever follows them
pub no_fault : (insn : Insn) (rest : List Word) → first_fault (first_word insn) (further_words insn ++ rest) ≡ None
no_fault insn rest = ap (λ (f : Option OpcodeForm). form_fault f (first_word insn) (further_words insn ++ rest)) (has_form insn)
    ∙ by_form insn rest
