-- The table of mnemonics: each name is a mnemonic, and names only its own form.
use Rattle.std.proofs.Common.{◌≡◌, ◌&&◌, Bool, true, false, nat_le, cond, List, [], ◌∷◌, length, Option, Some, refl, subst}
use Rattle.std.specs.List.{list_all, find}
use Rattle.std.specs.Str.{bytes_eq}
use Rattle.std.proofs.lemmas.Bool.{and_parts}
use Rattle.bpf_insn.specs.declared.instruction.Operation.TheVariants.{Add}
use Rattle.bpf_insn.specs.declared.instruction.Width.TheVariants.{Bits64}
use Rattle.bpf_insn.specs.declared.instruction.Condition.TheVariants.{Equal}
use Rattle.bpf_insn.specs.declared.instruction.SignExtension.TheVariants.{Bits8To64}
use Rattle.bpf_insn.specs.declared.instruction.ByteOrder.TheVariants.{LittleEndian}
use Rattle.bpf_insn.specs.declared.instruction.SwapWidth.TheVariants as swap
use Rattle.bpf_insn.specs.declared.instruction.LoadFormat.TheVariants as load
use Rattle.bpf_insn.specs.declared.instruction.StoreSize.TheVariants as store
use Rattle.bpf_assembler.specs.declared.mnemonic_form.MnemonicForm.{MnemonicForm}
use Rattle.bpf_assembler.specs.declared.mnemonic_form.MnemonicForm.TheVariants.{Alu, MoveSignExtended, Negate, ByteSwap, JumpIf, Load}
use Rattle.bpf_assembler.specs.declared.mnemonic_form.MnemonicForm.TheVariants.{StoreImmediate, Store}
use Rattle.bpf_assembler.specs.declared.mnemonic_form.TheConstants.{FORMS}
use Rattle.bpf_assembler.specs.Words.{is_mnemonic_byte}
use Rattle.bpf_assembler.specs.Mnemonic.{name_of, form_named}

-- a form is found by its own name
abbrev pub IsNamed : MnemonicForm → Type 0
IsNamed form = form_named (name_of form) ≡ Some form

pub named : (form : MnemonicForm) → IsNamed form
named (Alu Add Bits64) = refl
named (Alu operation Bits64) = refl
named (MoveSignExtended Bits8To64) = refl
named (Negate Bits64) = refl
named (ByteSwap LittleEndian swap.Bits16) = refl
named (ByteSwap order swap.Bits16) = refl
named (JumpIf Equal Bits64) = refl
named (JumpIf condition Bits64) = refl
named (Load load.Byte) = refl
named (StoreImmediate store.Byte) = refl
named (Store store.Byte) = refl
named form = refl

-- a property of all elements holds for the one that is found
found-by : {A : Type 0} (q : A → Bool) (first x : A) (rest : Option A) (test : Bool) → q first ≡ true → (rest ≡ Some x → q x ≡ true)
    → cond test (Some first) rest ≡ Some x → q x ≡ true
found-by q first x rest true here later found = let same : first ≡ x = cc in subst (λ y. q y ≡ true) same here
found-by q first x rest false here later found = later found

found : {A : Type 0} (p q : A → Bool) (xs : List A) (x : A) → list_all q xs ≡ true → find p xs ≡ Some x → q x ≡ true
found p q [] x all is = cc
found p q (first ∷ xs) x all is =
    let parts = and_parts (q first) (list_all q xs) all in
    found-by q first x (find p xs) (p first) parts.0 (found p q xs x parts.1) is

-- a property of all forms in the list holds for each form
pub each-form : (q : MnemonicForm → Bool) → list_all q FORMS ≡ true → (form : MnemonicForm) → q form ≡ true
each-form q all form = found (λ other. bytes_eq (name_of other) (name_of form)) q FORMS form all (named form)

abbrev pub is_mnemonic : MnemonicForm → Bool
is_mnemonic form = nat_le 1 (length (name_of form)) && list_all is_mnemonic_byte (name_of form)

-- a name is a word of at least one byte
pub mnemonic : (form : MnemonicForm) → is_mnemonic form ≡ true
mnemonic form = each-form is_mnemonic refl form
