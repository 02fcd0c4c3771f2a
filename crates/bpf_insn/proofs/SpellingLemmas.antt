-- An instruction is determined by the words that spell it.
use Rattle.std.proofs.Common.{◌≡◌, ℕ, ◌≤◌, Bool, true, false, ℤ, pos, List, ◌∷◌, ◌++◌, Some, if◌then◌else◌, refl, sym, ap, ◌∙◌, subst}
use Rattle.std.proofs.Common.{arith}
use Rattle.std.proofs.lemmas.List.{append_cancel_left}
use Rattle.std.specs.Ordering.{int_eq}
use Rattle.std.specs.Coded.{le_prop}
use Rattle.bpf_insn.specs.Form.{first_word, further_words, spelling}
use Rattle.bpf_insn.specs.Opcode.{form_of}
use Rattle.bpf_insn.proofs.FormLemmas.{insn_form, has_form}
use Rattle.bpf_insn.specs.declared.opcode_form.OpcodeForm.{OpcodeForm}
use Rattle.bpf_insn.specs.declared.opcode_form.OpcodeForm.TheVariants as form
use Rattle.bpf_insn.specs.declared.word.Word.{Word}
use Rattle.bpf_insn.specs.declared.register.Register.{Register as RegisterNumber}
use Rattle.bpf_insn.specs.declared.register.WritableRegister.{WritableRegister}
use Rattle.bpf_insn.specs.declared.instruction.Insn.{Insn}
use Rattle.bpf_insn.specs.declared.instruction.Insn.TheVariants.{Alu, MoveSignExtended, Negate, ByteSwap, JumpIf, Jump, Call, Exit, Load}
use Rattle.bpf_insn.specs.declared.instruction.Insn.TheVariants.{StoreImmediate, Store, WideLoad}
use Rattle.bpf_insn.specs.declared.instruction.Operation.{Operation}
use Rattle.bpf_insn.specs.declared.instruction.Operation.TheVariants.{Divide, SignedDivide, Modulo, SignedModulo, Move}
use Rattle.bpf_insn.specs.declared.instruction.Width.{Width}
use Rattle.bpf_insn.specs.declared.instruction.Width.TheVariants.{Bits32, Bits64}
use Rattle.bpf_insn.specs.declared.instruction.Source.{Source}
use Rattle.bpf_insn.specs.declared.instruction.Source.TheVariants.{Immediate, Register}
use Rattle.bpf_insn.specs.declared.instruction.SignExtension.{SignExtension}
use Rattle.bpf_insn.specs.declared.instruction.SignExtension.TheVariants.{Bits8To32, Bits16To32, Bits8To64, Bits16To64, Bits32To64}
use Rattle.bpf_insn.specs.declared.instruction.SwapWidth.{SwapWidth}
use Rattle.bpf_insn.specs.declared.instruction.SwapWidth.TheVariants as swap
use Rattle.bpf_insn.specs.declared.instruction.JumpDistance.TheVariants.{Short, Long}

-- what an offset or an immediate says of an instruction
abbrev signed_by : Operation → ℤ → Operation
signed_by Divide offset = if int_eq offset (pos 0) then Divide else SignedDivide
signed_by Modulo offset = if int_eq offset (pos 0) then Modulo else SignedModulo
signed_by operation offset = operation

abbrev extension_in : Width → ℤ → SignExtension
extension_in Bits32 offset = if int_eq offset (pos 8) then Bits8To32 else Bits16To32
extension_in Bits64 offset = if int_eq offset (pos 8) then Bits8To64 else (if int_eq offset (pos 16) then Bits16To64 else Bits32To64)

abbrev swap_in : ℤ → SwapWidth
swap_in immediate = if int_eq immediate (pos 16) then swap.Bits16 else (if int_eq immediate (pos 32) then swap.Bits32 else swap.Bits64)

-- a register is determined by its number
pub same_writable : (a b : WritableRegister) → a.number ≡ b.number → a ≡ b
same_writable a b e =
    let At : ℕ → Type 0 = λ n. (k : n ≤ 9) → a ≡ record { number = n; in_range = k } in
    subst At e (λ k. ap (λ (h : a.number ≤ 9). let r : WritableRegister = record { number = a.number; in_range = h } in r)
    (le_prop a.in_range k)) b.in_range

pub same_register : (a b : RegisterNumber) → a.number ≡ b.number → a ≡ b
same_register a b e =
    let At : ℕ → Type 0 = λ n. (k : n ≤ 10) → a ≡ record { number = n; in_range = k } in
    subst At e (λ k. ap (λ (h : a.number ≤ 10). let r : RegisterNumber = record { number = a.number; in_range = h } in r)
    (le_prop a.in_range k)) b.in_range

-- the registers of an instruction, or 0 for those that it doesn't have
abbrev no_writable : WritableRegister
no_writable = record { number = 0; in_range = omega arith }

abbrev no_register : RegisterNumber
no_register = record { number = 0; in_range = omega arith }

abbrev written : Insn → WritableRegister
written (Alu operation width d source) = d
written (MoveSignExtended extension d s) = d
written (Negate width d) = d
written (ByteSwap order width d) = d
written (Load format d b z) = d
written (WideLoad d v n) = d
written insn = no_writable

abbrev first_read : Insn → RegisterNumber
first_read (JumpIf condition width l r z) = l
first_read (StoreImmediate size b z v) = b
first_read (Store size b z s) = b
first_read insn = no_register

abbrev source_register : Source → RegisterNumber
source_register (Immediate v) = no_register
source_register (Register s) = s

abbrev second_read : Insn → RegisterNumber
second_read (Alu operation width d source) = source_register source
second_read (MoveSignExtended extension d s) = s
second_read (JumpIf condition width l r z) = source_register r
second_read (Load format d b z) = b
second_read (Store size b z s) = s
second_read insn = no_register

-- whether the destination field names a register that is written
abbrev writes : OpcodeForm → Bool
writes (form.JumpIf condition width from_register) = false
writes (form.StoreImmediate size) = false
writes (form.Store size) = false
writes form = true

writes_number : (insn : Insn) → (written insn).number ≡ (if writes (insn_form insn) then (first_word insn).destination else 0)
writes_number (Alu operation width d source) = refl
writes_number (Jump (Short distance)) = refl
writes_number insn = refl

reads_first : (insn : Insn) → (first_read insn).number ≡ (if writes (insn_form insn) then 0 else (first_word insn).destination)
reads_first (Alu operation width d source) = refl
reads_first (Jump (Short distance)) = refl
reads_first insn = refl

reads_second : (insn : Insn) → (second_read insn).number ≡ (first_word insn).source
reads_second (Alu operation width d (Immediate v)) = refl
reads_second (JumpIf condition width l (Immediate v) z) = refl
reads_second (Jump (Short distance)) = refl
reads_second insn = refl

-- the second immediate
abbrev next_of : OpcodeForm → List Word → ℤ
next_of form.WideLoad (next ∷ rest) = next.immediate
next_of form words = pos 0

abbrev source_from : Bool → RegisterNumber → ℤ → Source
source_from true s v = Register s
source_from false s v = Immediate v

-- the instruction of a form, with these registers and numbers
abbrev made : OpcodeForm → WritableRegister → RegisterNumber → RegisterNumber → ℤ → ℤ → ℤ → Insn
made (form.Alu Move width true) d l s z v n = if int_eq z (pos 0) then Alu Move width d (Register s) else MoveSignExtended
    (extension_in width z) d s
made (form.Alu operation width from_register) d l s z v n = Alu (signed_by operation z) width d (source_from from_register s v)
made (form.Negate width) d l s z v n = Negate width d
made (form.ByteSwap order) d l s z v n = ByteSwap order (swap_in v) d
made (form.JumpIf condition width from_register) d l s z v n = JumpIf condition width l (source_from from_register s v) z
made form.ShortJump d l s z v n = Jump (Short z)
made form.LongJump d l s z v n = Jump (Long v)
made form.Call d l s z v n = Call v
made form.Exit d l s z v n = Exit
made (form.Load format) d l s z v n = Load format d s z
made (form.StoreImmediate size) d l s z v n = StoreImmediate size l z v
made (form.Store size) d l s z v n = Store size l z s
made form.WideLoad d l s z v n = WideLoad d v n

-- an instruction is determined by its form, its registers and the words' numbers
is_made : (insn : Insn) (rest : List Word) → insn ≡ made (insn_form insn) (written insn) (first_read insn) (second_read insn)
    (first_word insn).offset (first_word insn).immediate (next_of (insn_form insn) (further_words insn ++ rest))
is_made (Alu Move width d (Immediate v)) rest = refl
is_made (Alu operation width d (Immediate v)) rest = refl
is_made (MoveSignExtended Bits8To32 d s) rest = refl
is_made (ByteSwap order swap.Bits16 d) rest = refl
is_made (JumpIf condition width l (Immediate v) z) rest = refl
is_made (Jump (Short distance)) rest = refl
is_made insn rest = refl

-- the first word of a list, and the others
pub same_first : (a b : Word) (xs ys : List Word) → a ∷ xs ≡ b ∷ ys → a ≡ b
same_first a b xs ys e = cc

pub same_others : (a b : Word) (xs ys : List Word) → a ∷ xs ≡ b ∷ ys → xs ≡ ys
same_others a b xs ys e = cc

-- no spelling is a prefix of another one, and a spelling belongs to one instruction
pub one_instruction : (a b : Insn) (xs ys : List Word) → spelling a ++ xs ≡ spelling b ++ ys → a ≡ b
one_instruction a b xs ys e =
    let words : first_word a ∷ (further_words a ++ xs) ≡ first_word b ∷ (further_words b ++ ys) = e in
    let first = same_first (first_word a) (first_word b) (further_words a ++ xs) (further_words b ++ ys) words in
    let others = same_others (first_word a) (first_word b) (further_words a ++ xs) (further_words b ++ ys) words in
    let both : Some (insn_form a) ≡ Some (insn_form b) = sym (has_form a) ∙ ap (λ (w : Word). form_of w.opcode) first ∙ has_form b in
    let forms : insn_form a ≡ insn_form b = cc in
    let d = same_writable (written a) (written b) (writes_number a
    ∙ ap (λ (f : OpcodeForm). if writes f then (first_word a).destination else 0) forms
    ∙ ap (λ (w : Word). if writes (insn_form b) then w.destination else 0) first ∙ sym (writes_number b)) in
    let l = same_register (first_read a) (first_read b)
    (reads_first a ∙ ap (λ (f : OpcodeForm). if writes f then 0 else (first_word a).destination) forms
    ∙ ap (λ (w : Word). if writes (insn_form b) then 0 else w.destination) first ∙ sym (reads_first b)) in
    let s = same_register (second_read a) (second_read b) (reads_second a ∙ ap (λ (w : Word). w.source) first ∙ sym (reads_second b)) in
    is_made a xs ∙ (let parts : made (insn_form a) (written a) (first_read a) (second_read a) (first_word a).offset (first_word a).immediate
    (next_of (insn_form a) (further_words a ++ xs)) ≡ made (insn_form b) (written b) (first_read b) (second_read b)
    (first_word b).offset (first_word b).immediate (next_of (insn_form b) (further_words b ++ ys)) =
    rw (forms, d, l, s, first, others) refl in parts) ∙ sym (is_made b ys)

-- the rests of two lists that begin with the same instruction's words
pub same_rest : (a b : Insn) (xs ys : List Word) → spelling a ++ xs ≡ spelling b ++ ys → xs ≡ ys
same_rest a b xs ys e =
    let same : spelling b ≡ spelling a = ap spelling (sym (one_instruction a b xs ys e)) in
    append_cancel_left (spelling a) xs ys (e ∙ ap (λ (words : List Word). words ++ ys) same)
