-- How codes, words and faults determine each other.
use Rattle.std.proofs.Common.{◌≡◌, ◌≢◌, ℕ, ◌/◌, ◌<◌, List, [], ◌∷◌, ◌++◌, length, Some, Result, Ok, Err, IfOk, IfErr, MatchResult, IsErrAnd}
use Rattle.std.proofs.Common.{◌⊎◌, inl, inr, refl, sym, ap, ◌∙◌, arith}
use Rattle.std.proofs.lemmas.List.{append_assoc, length-append}
use Rattle.std.proofs.lemmas.Option.{none-some}
use Rattle.bpf_insn.specs.Word.{words_of}
use Rattle.bpf_insn.specs.Form.{first_word, further_words, spelling}
use Rattle.bpf_insn.specs.Fault.{first_fault}
use Rattle.bpf_insn.specs.Code.{code_words, word_count, IsCodeOf, IsFirstFault, HasFaultAt}
use Rattle.bpf_insn.proofs.WordLemmas.{length-first_words}
use Rattle.bpf_insn.proofs.FaultLemmas.{no_fault}
use Rattle.bpf_insn.proofs.SpellingLemmas.{one_instruction, same_rest, same_first, same_others}
use Rattle.bpf_insn.specs.declared.fault.CodeFault.{CodeFault}
use Rattle.bpf_insn.specs.declared.fault.CodeFault.TheVariants as code_fault
use Rattle.bpf_insn.specs.declared.fault.WordFault.{WordFault}
use Rattle.bpf_insn.specs.declared.word.Word.{Word}
use Rattle.bpf_insn.specs.declared.instruction.Insn.{Insn}

-- an instruction takes at least one word
pub length-spelling_positive : (insn : Insn) → 0 < length (spelling insn)
length-spelling_positive insn = omega arith

-- a spelling isn't empty
spelling_is_not_empty : (insn : Insn) (xs : List Word) → [] ≡ spelling insn ++ xs → ⊥
spelling_is_not_empty insn xs e = cc

-- words that begin with an instruction have no fault
has_no_fault : (insn : Insn) (after rest : List Word) (first : Word) (fault : WordFault) → spelling insn ++ after ≡ first ∷ rest
    → first_fault first rest ≡ Some fault → ⊥
has_no_fault insn after rest first fault e h =
    let words : first_word insn ∷ (further_words insn ++ after) ≡ first ∷ rest = e in
    let begins = same_first (first_word insn) first (further_words insn ++ after) rest words in
    let continues = same_others (first_word insn) first (further_words insn ++ after) rest words in
    none-some fault (sym (no_fault insn after) ∙ ap (λ (w : Word). first_fault w (further_words insn ++ after)) begins
    ∙ ap (first_fault first) continues ∙ h)

-- words have at most one code
pub one_code : (a b : List Insn) → code_words a ≡ code_words b → a ≡ b
one_code [] [] e = refl
one_code [] (insn ∷ b) e = absurd (spelling_is_not_empty insn (code_words b) e)
one_code (insn ∷ a) [] e = absurd (spelling_is_not_empty insn (code_words a) (sym e))
one_code (insn ∷ a) (other ∷ b) e =
    let first = one_instruction insn other (code_words a) (code_words b) e in
    let rest = one_code a b (same_rest insn other (code_words a) (code_words b) e) in
    cc

-- no word of a code has a fault
pub no_fault_in_code : (code before : List Insn) (faulty : Word) (rest : List Word) (fault : WordFault)
    → code_words code ≡ code_words before ++ faulty ∷ rest → first_fault faulty rest ≡ Some fault → ⊥
no_fault_in_code [] [] faulty rest fault e h = cc
no_fault_in_code (insn ∷ code) [] faulty rest fault e h = has_no_fault insn (code_words code) rest faulty fault e h
no_fault_in_code [] (first ∷ before) faulty rest fault e h =
    spelling_is_not_empty first (code_words before ++ faulty ∷ rest) (e ∙ append_assoc (spelling first) (code_words before) (faulty ∷ rest))
no_fault_in_code (insn ∷ code) (first ∷ before) faulty rest fault e h =
    let joined = e ∙ append_assoc (spelling first) (code_words before) (faulty ∷ rest) in
    no_fault_in_code code before faulty rest fault (same_rest insn first (code_words code) (code_words before ++ faulty ∷ rest) joined) h

-- the number of a code's words, from the length of its bytes
pub word_count_of : (bytes : List ℕ) (code : List Insn) → words_of bytes ≡ code_words code → word_count code ≡ length bytes / 8
word_count_of bytes code e = ap length (sym e) ∙ length-first_words (length bytes / 8) bytes

-- bytes that have a code are refused only because memory runs out
pub memory_alone : (bytes : List ℕ) (code : List Insn) (fault : CodeFault) → IsCodeOf bytes code → IsFirstFault bytes fault
    → fault ≡ code_fault.Memory
memory_alone bytes code code_fault.Empty is f = let n = word_count_of bytes code is.words in absurd (omega arith)
memory_alone bytes code code_fault.NotWhole is f = absurd (f is.whole)
memory_alone bytes code code_fault.TooLong is f = let n = word_count_of bytes code is.words in absurd (omega arith)
memory_alone bytes code (code_fault.InWord place fault) is f =
    absurd (no_fault_in_code code f.2.0 f.2.1 f.2.2 fault (sym is.words ∙ f.2.3) f.2.5)
memory_alone bytes code code_fault.Memory is f = refl

-- so a reader that returns a code or the first fault returns that one code
pub decodes_to_code : (bytes : List ℕ) (result : Result (List Insn) CodeFault) → IfOk result (IsCodeOf bytes)
    → IfErr result (IsFirstFault bytes) → (code : List Insn) → IsCodeOf bytes code
    → MatchResult result (λ decoded. decoded ≡ code) (λ fault. fault ≡ code_fault.Memory)
decodes_to_code bytes (Ok decoded) ok err code is = one_code decoded code (sym ok.words ∙ is.words)
decodes_to_code bytes (Err fault) ok err code is = memory_alone bytes code fault is err

-- words that begin with a fault
record Faulty : Type 0 where
  word : Word
  rest : List Word
  fault : WordFault
  is : first_fault word rest ≡ Some fault

-- two sequences of instructions from the same words, each followed by a fault, are equal
same_front : (a b : List Insn) (f g : Faulty) → code_words a ++ f.word ∷ f.rest ≡ code_words b ++ g.word ∷ g.rest
    → (a ≡ b) × ((f.word ≡ g.word) × (f.rest ≡ g.rest))
same_front [] [] f g e = (refl, (same_first f.word g.word f.rest g.rest e, same_others f.word g.word f.rest g.rest e))
same_front [] (insn ∷ b) f g e =
    absurd (has_no_fault insn (code_words b ++ g.word ∷ g.rest) f.rest f.word f.fault
    (sym (e ∙ append_assoc (spelling insn) (code_words b) (g.word ∷ g.rest))) f.is)
same_front (insn ∷ a) [] f g e =
    absurd (has_no_fault insn (code_words a ++ f.word ∷ f.rest) g.rest g.word g.fault
    (sym (append_assoc (spelling insn) (code_words a) (f.word ∷ f.rest)) ∙ e) g.is)
same_front (insn ∷ a) (other ∷ b) f g e =
    let one = code_words a ++ f.word ∷ f.rest in
    let two = code_words b ++ g.word ∷ g.rest in
    let joined = sym (append_assoc (spelling insn) (code_words a) (f.word ∷ f.rest)) ∙ e
    ∙ append_assoc (spelling other) (code_words b) (g.word ∷ g.rest) in
    let first = one_instruction insn other one two joined in
    let rest = same_front a b f g (same_rest insn other one two joined) in
    (let front = rest.0 in cc, rest.1)

same_fault : {x y : WordFault} {f g : Word} {r s : List Word} → f ≡ g → r ≡ s → first_fault f r ≡ Some x → first_fault g s ≡ Some y → x ≡ y
same_fault {x} {y} {g} {r} e k h i =
    let both : Some x ≡ Some y = sym h ∙ ap (λ (w : Word). first_fault w r) e ∙ ap (first_fault g) k ∙ i in cc

-- if a word is faulty, there is a word
has_words : (bytes : List ℕ) (p : ℕ) (x : WordFault) → HasFaultAt bytes p x → length bytes / 8 ≡ 0 → ⊥
has_words bytes p x h none =
    let l = sym (length-first_words (length bytes / 8) bytes) ∙ ap length h.3 in
    omega (arith, length-append (code_words h.0) (h.1 ∷ h.2))

same_place : (bytes : List ℕ) (p q : ℕ) (x y : WordFault) → HasFaultAt bytes p x → HasFaultAt bytes q y
    → code_fault.InWord p x ≡ code_fault.InWord q y
same_place bytes p q x y one other =
    let front = same_front one.0 other.0 (record { word = one.1; rest = one.2; fault = x; is = one.5 })
    (record { word = other.1; rest = other.2; fault = y; is = other.5 }) (sym one.3 ∙ other.3) in
    let fault = same_fault front.1.0 front.1.1 one.5 other.5 in
    let place : p ≡ q = one.4 ∙ ap word_count front.0 ∙ sym other.4 in
    cc

-- bytes have at most one first fault, apart from running out of memory
pub one_fault : (bytes : List ℕ) (a b : CodeFault) → IsFirstFault bytes a → IsFirstFault bytes b → a ≢ code_fault.Memory
    → b ≢ code_fault.Memory → a ≡ b
one_fault bytes code_fault.Empty code_fault.Empty h k m n = refl
one_fault bytes code_fault.Empty code_fault.NotWhole h k m n = absurd (k (omega arith))
one_fault bytes code_fault.Empty (code_fault.InWord q y) h k m n = absurd (has_words bytes q y k.2 (omega arith))
one_fault bytes code_fault.NotWhole code_fault.Empty h k m n = absurd (h (omega arith))
one_fault bytes code_fault.NotWhole code_fault.NotWhole h k m n = refl
one_fault bytes code_fault.NotWhole code_fault.TooLong h k m n = absurd (h k.0)
one_fault bytes code_fault.NotWhole (code_fault.InWord q y) h k m n = absurd (h k.0)
one_fault bytes code_fault.TooLong code_fault.NotWhole h k m n = absurd (k h.0)
one_fault bytes code_fault.TooLong code_fault.TooLong h k m n = refl
one_fault bytes (code_fault.InWord p x) code_fault.Empty h k m n = absurd (has_words bytes p x h.2 (omega arith))
one_fault bytes (code_fault.InWord p x) code_fault.NotWhole h k m n = absurd (k h.0)
one_fault bytes (code_fault.InWord p x) (code_fault.InWord q y) h k m n = same_place bytes p q x y h.2 k.2
one_fault bytes code_fault.Memory b h k m n = absurd (m refl)
one_fault bytes a code_fault.Memory h k m n = absurd (n refl)
one_fault bytes a b h k m n = absurd (omega arith)

-- a refusal is because memory runs out, or it isn't
for_memory_or_not : (fault : CodeFault) → (fault ≢ code_fault.Memory) ⊎ (fault ≡ code_fault.Memory)
for_memory_or_not code_fault.Memory = inr refl
for_memory_or_not fault = inl (λ e. cc)

-- so a reader that returns a code or the first fault returns the one first fault, if there is one
pub names_the_fault : (bytes : List ℕ) (result : Result (List Insn) CodeFault) → IfOk result (IsCodeOf bytes)
    → IfErr result (IsFirstFault bytes) → (fault : CodeFault) → IsFirstFault bytes fault → fault ≢ code_fault.Memory
    → IsErrAnd result (λ given. (given ≡ fault) ⊎ (given ≡ code_fault.Memory))
names_the_fault bytes (Ok code) ok err fault is n = absurd (n (memory_alone bytes code fault ok is))
names_the_fault bytes (Err given) ok err fault is n =
    elim (for_memory_or_not given) as (λ _. (given ≡ fault) ⊎ (given ≡ code_fault.Memory))
    [ inl other ↦ inl (one_fault bytes given fault err is other n) | inr memory ↦ inr memory ]
