-- The text of a code means that code if each of its lines is read back.
use Rattle.std.proofs.Common.{◌≡◌, ℕ, suc, ◌+◌, ◌-◌, ◌<◌, ◌≤◌, Bool, true, false, nat_le, List, [], ◌∷◌, ◌++◌, length, get_or, take, map}
use Rattle.std.proofs.Common.{subst, None, Result, Ok, refl, sym, ap, ◌∙◌, arith}
use Rattle.std.specs.Prelude.{◌==◌, codes}
use Rattle.std.specs.List.{list_all, slice_split, All, flat_map}
use Rattle.std.specs.Str.Lines.{lines, lines_of_parts, strip_carriage_return}
use Rattle.std.proofs.lemmas.Bool.{leb-true}
use Rattle.std.proofs.lemmas.Bool.Decides.{nat_tests}
use Rattle.std.proofs.lemmas.List.{append_assoc, length-append, append-nil, take_more, take_all}
use Rattle.std.proofs.lemmas.Grind.{flat_map-append}
use Rattle.std.proofs.lemmas.List.Sums.{AllPass-from_list_all}
use Rattle.std.proofs.lemmas.List.Splits.{slice_split_at, length-slice_split}
use Rattle.bpf_insn.specs.Form.{spelling}
use Rattle.bpf_insn.specs.Code.{word_count, code_words, HasProgramSize}
use Rattle.bpf_insn.specs.declared.code.TheConstants.{MAX_WORDS}
use Rattle.bpf_insn.specs.declared.instruction.Insn.{Insn}
use Rattle.bpf_assembler.specs.declared.fault.TextFaultKind.{TextFaultKind}
use Rattle.bpf_assembler.specs.Statement.{Statement, Instruction, statement_in}
use Rattle.bpf_assembler.specs.Text.{words_of, FaultlessAfter, items_from, code_from, onto_code, Means}
use Rattle.bpf_text.specs.CodeText.{line_text, text_of, IsReadBack}
use Rattle.bpf_assembler.proofs.LineCutLemmas.{lines-more}
use Rattle.bpf_assembler.proofs.StatementLemmas.{words-snoc}
use Rattle.bpf_assembler.proofs.NoteLemmas.{faultless-instruction}

-- a byte that doesn't begin a line end
abbrev pub is_printed : ℕ → Bool
is_printed byte = nat_le 32 byte

-- each instruction of a code
abbrev pub AreReadBack : List Insn → Type 0
AreReadBack [] = Unit {0}
AreReadBack (insn ∷ code) = IsReadBack insn × AreReadBack code

pub read-back-more : (code : List Insn) (insn : Insn) → AreReadBack code → IsReadBack insn → AreReadBack (code ++ insn ∷ [])
read-back-more [] insn all one = (one, tt)
read-back-more (first ∷ code) insn all one = (all.0, read-back-more code insn all.1 one)

not-feed : (byte : ℕ) → is_printed byte ≡ true → (byte == 10) ≡ false
not-feed byte printed = let high : 32 ≤ byte = leb-true 32 byte printed in grind (arith, nat_tests)

not-return : (byte : ℕ) → is_printed byte ≡ true → (byte == 13) ≡ false
not-return byte printed = let high : 32 ≤ byte = leb-true 32 byte printed in grind (arith, nat_tests)

no-feed : (line : List ℕ) → list_all is_printed line ≡ true → All (λ byte. (byte == 10) ≡ false) line
no-feed line printed k d inside = not-feed (get_or line k d) (AllPass-from_list_all is_printed line printed k d inside)

no-return : (line : List ℕ) → list_all is_printed line ≡ true → strip_carriage_return line ≡ line
no-return [] printed = refl
no-return (byte ∷ line) printed =
    let last = not-return (get_or (byte ∷ line) (length (byte ∷ line) - 1) 0)
    (AllPass-from_list_all is_printed (byte ∷ line) printed (length (byte ∷ line) - 1) 0 (omega arith)) in
    rw last refl

-- the first line of a text
first-of-text : (line rest : List ℕ) → list_all is_printed line ≡ true → lines ((line ++ codes "\n") ++ rest) ≡ line ∷ lines rest
first-of-text line rest printed =
    let whole : (line ++ codes "\n") ++ rest ≡ line ++ 10 ∷ rest = append_assoc line (codes "\n") rest in
    let parts = slice_split_at (λ byte. byte == 10) line 10 rest (no-feed line printed) refl in
    let some : 1 ≤ length (slice_split (λ byte. byte == 10) rest) = omega (arith, length-slice_split (λ byte. byte == 10) rest) in
    ap lines whole ∙ ap lines_of_parts parts ∙ lines-more line (slice_split (λ byte. byte == 10) rest) some
    ∙ ap (λ (l : List ℕ). l ∷ lines rest) (no-return line printed)

-- the lines of a code's text
pub lines-of-text : (code : List Insn) → AreReadBack code → lines (text_of code) ≡ map line_text code
lines-of-text [] all = refl
lines-of-text (insn ∷ code) all = first-of-text (line_text insn) (text_of code) all.0.printed
    ∙ ap (λ (ls : List (List ℕ)). line_text insn ∷ ls) (lines-of-text code all.1)

abbrev pub statements_of : List Insn → List Statement
statements_of code = map (λ insn. Instruction insn None) code

meant-back : (code : List Insn) → AreReadBack code → map statement_in (map line_text code) ≡ map Ok (statements_of code)
meant-back [] all = refl
meant-back (insn ∷ code) all =
    ap (λ (r : Result Statement TextFaultKind). r ∷ map statement_in (map line_text code)) all.0.means
    ∙ ap (λ (rs : List (Result Statement TextFaultKind)). Ok (Instruction insn None) ∷ rs) (meant-back code all.1)

faultless-back : (before : List Statement) (code : List Insn) → words_of before + word_count code ≤ MAX_WORDS
    → FaultlessAfter before (statements_of code)
faultless-back before [] fits = tt
faultless-back before (insn ∷ code) fits =
    let size : word_count (insn ∷ code) ≡ length (spelling insn) + word_count code = length-append (spelling insn) (code_words code) in (
      faultless-instruction before insn None (omega (arith, size)),
      faultless-back (before ++ Instruction insn None ∷ []) code (omega (arith, size, words-snoc before (Instruction insn None))),
    )

code-back : (statements : List Statement) (line place : ℕ) (code : List Insn)
    → code_from statements (items_from line place (statements_of code)) ≡ Ok code
code-back statements line place [] = refl
code-back statements line place (insn ∷ code) = ap (onto_code line (Ok insn))
    (code-back statements (suc line) (place + length (spelling insn)) code)

some-back : (code : List Insn) → 1 ≤ word_count code → 1 ≤ length code
some-back [] some = some
some-back (insn ∷ code) some = omega arith

-- the text of a code means it
pub text-means : (code : List Insn) → AreReadBack code → HasProgramSize (word_count code) → Means (text_of code) code
text-means code all sized = record {
  statements = statements_of code;
  has_statements = record {
    meant = ap (map statement_in) (lines-of-text code all) ∙ meant-back code all;
    faultless =
        faultless-back [] code (omega (arith, sized.1));
  };
  meant = code-back (statements_of code) 1 0 code;
  some = some-back code sized.0;
}

-- one more instruction
pub read-back-next : (code : List Insn) (i : ℕ) (insn : Insn) → i < length code → insn ≡ get_or code i insn → AreReadBack (take i code)
    → IsReadBack insn → AreReadBack (take (i + 1) code)
read-back-next code i insn inside is all one =
    subst AreReadBack (sym (take_more code i insn inside ∙ ap (λ (x : Insn). take i code ++ x ∷ []) (sym is)))
    (read-back-more (take i code) insn all one)

-- the text of all instructions
pub text-means-all : {text : List ℕ} {written code : List Insn} (i : ℕ) → text ≡ text_of (take i written) → AreReadBack (take i written)
    → length written ≤ i → written ≡ code → HasProgramSize (word_count code) → Means text code
text-means-all {written} {code} i is all past same sized =
    let whole : take i written ≡ code = take_all i written past ∙ same in
    subst (λ (t : List ℕ). Means t code) (sym (is ∙ ap text_of whole)) (text-means code (subst AreReadBack whole all) sized)

pub text-next : {old new : List ℕ} (code : List Insn) (i : ℕ) {insn : Insn} → i < length code → insn ≡ get_or code i insn
    → old ≡ text_of (take i code) → new ≡ old ++ (line_text insn ++ codes "\n") → new ≡ text_of (take (i + 1) code)
text-next code i {insn} inside is so_far adds =
    let more : take (i + 1) code ≡ take i code ++ insn ∷ [] = take_more code i insn inside ∙ ap (λ (x : Insn). take i code ++ x ∷ [])
    (sym is) in
    let last : flat_map (λ x. line_text x ++ codes "\n") (insn ∷ []) ≡ line_text insn ++ codes "\n" =
    append-nil (line_text insn ++ codes "\n") in
    adds ∙ ap (λ (t : List ℕ). t ++ (line_text insn ++ codes "\n")) so_far ∙ ap (λ (t : List ℕ). text_of (take i code) ++ t) (sym last)
    ∙ sym (ap text_of more ∙ flat_map-append (λ x. line_text x ++ codes "\n") (take i code) (insn ∷ []))
