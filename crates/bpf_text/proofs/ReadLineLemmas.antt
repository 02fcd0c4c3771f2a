-- A mnemonic with its operands is read as it was written.
use Rattle.std.proofs.Common.{◌≡◌, ℕ, ◌-◌, ◌<◌, ◌≤◌, Bool, true, false, ◌&&◌, cond, nat_le, List, [], ◌∷◌, ◌++◌, length, Some, None, Result}
use Rattle.std.proofs.Common.{Ok, Err, refl, ap, ◌∙◌, subst, arith}
use Rattle.std.specs.Prelude.{◌==◌, not, codes, slice_index}
use Rattle.std.specs.List.{list_all, position_or_len, before_first, after_first}
use Rattle.std.proofs.lemmas.Bool.{lt-ltb}
use Rattle.std.proofs.lemmas.Bool.Decides.{nat_tests}
use Rattle.std.proofs.lemmas.List.{append_assoc, length-append}
use Rattle.std.proofs.lemmas.List.Sums.{AllPass-from_list_all}
use Rattle.bpf_assembler.specs.declared.fault.TextFaultKind.{TextFaultKind}
use Rattle.bpf_assembler.specs.declared.fault.TextFaultKind.TheVariants.{Syntax}
use Rattle.bpf_assembler.specs.Words.{is_blank, is_comma, is_semicolon, trim, content_of, first_word, after_word, is_mnemonic_byte}
use Rattle.bpf_assembler.specs.Words.{split_operand}
use Rattle.bpf_assembler.specs.Operand.{both}
use Rattle.bpf_assembler.specs.Statement.{statement_in, statement_of, instruction_with, instruction_of, two, with_two}
use Rattle.bpf_assembler.specs.Mnemonic.{form_named}
use Rattle.bpf_assembler.proofs.OperandPairLemmas.{statement-of-instruction}
use Rattle.bpf_text.proofs.ReadLemmas.{all-by, all-append, place-at, before-at, after-at, before-none, IsFramed, trim-framed, framed-join}
use Rattle.bpf_text.proofs.ReadLemmas.{framed-word}

-- a byte of a line, and one of a word
abbrev pub is_line_byte : ℕ → Bool
is_line_byte byte = nat_le 32 byte && not (byte == 58) && not (byte == 59)

abbrev pub is_word_byte : ℕ → Bool
is_word_byte byte = nat_le 33 byte && not (byte == 44) && not (byte == 58) && not (byte == 59)

word-is-line : (byte : ℕ) → is_word_byte byte ≡ true → is_line_byte byte ≡ true
word-is-line byte is = grind (arith, nat_tests)

word-not-blank : (byte : ℕ) → is_word_byte byte ≡ true → not (is_blank byte) ≡ true
word-not-blank byte is = grind (arith, nat_tests)

word-not-comma : (byte : ℕ) → is_word_byte byte ≡ true → not (is_comma byte) ≡ true
word-not-comma byte is = grind (arith, nat_tests)

mnemonic-is-word : (byte : ℕ) → is_mnemonic_byte byte ≡ true → is_word_byte byte ≡ true
mnemonic-is-word byte is = grind (arith, nat_tests)

line-not-semicolon : (byte : ℕ) → is_line_byte byte ≡ true → not (is_semicolon byte) ≡ true
line-not-semicolon byte is = grind (arith, nat_tests)

line-not-colon : (byte : ℕ) → is_line_byte byte ≡ true → byte ≡ 58 → ⊥
line-not-colon byte is colon = absurd (grind (arith, nat_tests))

pub mnemonic-is-line : (name : List ℕ) → list_all is_mnemonic_byte name ≡ true → list_all is_line_byte name ≡ true
mnemonic-is-line name mnemonic = all-by is_word_byte is_line_byte word-is-line name
    (all-by is_mnemonic_byte is_word_byte mnemonic-is-word name mnemonic)

-- a word
pub record IsWord (xs : List ℕ) : Type 0 where
  pub some : 1 ≤ length xs
  pub bytes : list_all is_word_byte xs ≡ true

pub line-bytes : (xs : List ℕ) → IsWord xs → list_all is_line_byte xs ≡ true
line-bytes xs word = all-by is_word_byte is_line_byte word-is-line xs word.bytes

pub framed : (xs : List ℕ) → IsWord xs → IsFramed xs
framed xs word = framed-word xs word.some (all-by is_word_byte (λ byte. not (is_blank byte)) word-not-blank xs word.bytes)

-- operands
pub record AreOperands (xs : List ℕ) : Type 0 where
  pub framed_by : IsFramed xs
  pub bytes : list_all is_line_byte xs ≡ true

pub one-operand : (xs : List ℕ) → IsWord xs → AreOperands xs
one-operand xs word = record { framed_by = framed xs word; bytes = line-bytes xs word }

pub more-operands : (xs ys : List ℕ) → IsWord xs → AreOperands ys → AreOperands ((xs ++ codes ", ") ++ ys)
more-operands xs ys word others = record {
  framed_by = framed-join xs (codes ", ") ys (framed xs word) others.framed_by;
  bytes = all-append is_line_byte (xs ++ codes ", ") ys (all-append is_line_byte xs (codes ", ") (line-bytes xs word) refl) others.bytes;
}

pub cut-operands : (xs ys : List ℕ) → IsWord xs → AreOperands ys → split_operand ((xs ++ codes ", ") ++ ys) ≡ Some (xs, ys)
cut-operands xs ys word others =
    let none = all-by is_word_byte (λ byte. not (is_comma byte)) word-not-comma xs word.bytes in
    let whole : (xs ++ codes ", ") ++ ys ≡ xs ++ 44 ∷ (32 ∷ ys) = append_assoc xs (codes ", ") ys in
    let inside : position_or_len is_comma (xs ++ 44 ∷ (32 ∷ ys)) < length (xs ++ 44 ∷ (32 ∷ ys)) =
    omega (arith, place-at is_comma xs (32 ∷ ys) 44 none refl, length-append xs (44 ∷ (32 ∷ ys))) in
    let first : trim (before_first is_comma (xs ++ 44 ∷ (32 ∷ ys))) ≡ xs =
    ap trim (before-at is_comma xs (32 ∷ ys) 44 none refl) ∙ trim-framed xs (framed xs word) in
    let rest : trim (after_first is_comma (xs ++ 44 ∷ (32 ∷ ys))) ≡ ys =
    ap trim (after-at is_comma xs (32 ∷ ys) 44 none refl) ∙ trim-framed ys others.framed_by in
    ap split_operand whole ∙ ap (λ (test : Bool). cond test
    (Some (trim (before_first is_comma (xs ++ 44 ∷ (32 ∷ ys))), trim (after_first is_comma (xs ++ 44 ∷ (32 ∷ ys))))) None)
    (lt-ltb _ _ inside) ∙ ap (λ (l : List ℕ). Some (l, trim (after_first is_comma (xs ++ 44 ∷ (32 ∷ ys))))) first
    ∙ ap (λ (l : List ℕ). Some (xs, l)) rest

pub two-operands : {A B : Type 0} (left : List ℕ → Result A TextFaultKind) (right : List ℕ → Result B TextFaultKind) {xs ys : List ℕ} {a : A} {b : B}
    → IsWord xs → AreOperands ys → left xs ≡ Ok a → right ys ≡ Ok b → two left right ((xs ++ codes ", ") ++ ys) ≡ Ok (a, b)
two-operands left right {ys} {a} word others first second =
    ap (with_two left right) (cut-operands _ ys word others) ∙ ap (λ (r : Result _ TextFaultKind). both r (right ys)) first
    ∙ ap (λ (r : Result _ TextFaultKind). both (Ok a) r) second

instruction-by : (content name ops : List ℕ) → first_word content ≡ name → after_word content ≡ ops → list_all is_mnemonic_byte name ≡ true
    → instruction_of content ≡ instruction_with (form_named name) ops
instruction-by content name ops first rest mnemonic =
    ap (λ (w : List ℕ). cond (list_all is_mnemonic_byte w) (instruction_with (form_named w) (after_word content)) (Err Syntax)) first
    ∙ ap (λ (test : Bool). cond test (instruction_with (form_named name) (after_word content)) (Err Syntax)) mnemonic
    ∙ ap (instruction_with (form_named name)) rest

-- a line with a mnemonic and operands
pub read-line : (name ops : List ℕ) → 1 ≤ length name → list_all is_mnemonic_byte name ≡ true → AreOperands ops
    → statement_in (name ++ 32 ∷ ops) ≡ instruction_with (form_named name) ops
read-line name ops some mnemonic operands =
    let line = name ++ 32 ∷ ops in
    let word : IsWord name = record { some = some; bytes = all-by is_mnemonic_byte is_word_byte mnemonic-is-word name mnemonic } in
    let bytes : list_all is_line_byte line ≡ true = all-append is_line_byte name (32 ∷ ops) (line-bytes name word) operands.bytes in
    let frame : IsFramed line = subst IsFramed (append_assoc name (32 ∷ []) ops)
    (framed-join name (32 ∷ []) ops (framed name word) operands.framed_by) in
    let content : content_of line ≡ line = ap trim (before-none is_semicolon line
    (all-by is_line_byte (λ byte. not (is_semicolon byte)) line-not-semicolon line bytes)) ∙ trim-framed line frame in
    let full : (length line == 0) ≡ false = (let long : 1 ≤ length line = frame.some in grind (arith, nat_tests)) in
    let last : length line - 1 < length line = omega (arith, frame.some) in
    let other : slice_index line (length line - 1) ≡ 58 → ⊥ = line-not-colon _
    (AllPass-from_list_all is_line_byte line bytes (length line - 1) 0 last) in
    let unblank = all-by is_word_byte (λ byte. not (is_blank byte)) word-not-blank name word.bytes in
    let first = before-at is_blank name ops 32 unblank refl in
    let rest : trim (after_first is_blank line) ≡ ops = ap trim (after-at is_blank name ops 32 unblank refl) ∙ trim-framed ops
    operands.framed_by in
    ap statement_of content ∙ statement-of-instruction line full other ∙ instruction-by line name ops first rest mnemonic
