-- From the words at a place to the code of all words.
use Rattle.std.proofs.Common.{◌≡◌, ℕ, zero, suc, ◌+◌, ◌-◌, ◌*◌, ◌/◌, ◌%◌, ◌<◌, ◌≤◌, List, [], ◌∷◌, ◌++◌, length, take, drop, Option, Some}
use Rattle.std.proofs.Common.{None, MatchOption, Bor, slice_range, ◌⊎◌, inl, inr, refl, sym, ap, ◌∙◌, subst, arith, option_to_list, Result}
use Rattle.std.proofs.Common.{Ok, Err, IfOk, IfErr}
use Rattle.std.proofs.lemmas.List.{length-drop, drop-drop, length-append, flat_map_more}
use Rattle.std.proofs.lemmas.Option.{none-some}
use Rattle.bpf_insn.specs.Word.{word_of, words_of, first_words}
use Rattle.bpf_insn.specs.Form.{spelling}
use Rattle.bpf_insn.specs.Row.{fault}
use Rattle.bpf_insn.specs.Opcode.{row, form_of}
use Rattle.bpf_insn.specs.Fault.{first_fault, wide_fault, form_fault}
use Rattle.bpf_insn.specs.declared.opcode_form.OpcodeForm.{OpcodeForm}
use Rattle.bpf_insn.specs.declared.opcode_form.OpcodeForm.TheVariants.{WideLoad}
use Rattle.bpf_insn.specs.Reading.{Begins, BeginsAt, IsFaultAt}
use Rattle.bpf_insn.specs.Code.{code_words, HasFaultAt, IsFirstFault, IsPushFault}
use Rattle.bpf_insn.specs.declared.code.TheConstants.{MAX_WORDS}
use Rattle.bpf_insn.specs.declared.fault.CodeFault.{CodeFault}
use Rattle.bpf_insn.specs.declared.fault.CodeFault.TheVariants as code_fault
use Rattle.bpf_insn.proofs.WordLemmas.{length-first_words}
use Rattle.bpf_insn.specs.declared.word.Word.{Word}
use Rattle.bpf_insn.specs.declared.fault.WordFault.{WordFault}
use Rattle.bpf_insn.specs.declared.instruction.Insn.{Insn}

-- the word after a place, if there is one
abbrev pub IsNext : List ℕ → ℕ → Option Word → Type 0
IsNext bytes place next =
    ((next ≡ None) × (length bytes / 8 ≡ suc place)) ⊎ ((next ≡ Some (word_of (drop (suc place * 8) bytes)))
    × (suc place < length bytes / 8))

-- it's the first of the words that follow
abbrev IsHead : Option Word → List Word → Type 0
IsHead next rest = ((next ≡ None) × (rest ≡ [])) ⊎ ((word : Word) × (more : List Word) × (next ≡ Some word) × (rest ≡ word ∷ more))

-- the words from a place on
from_place : (bytes : List ℕ) (place : ℕ) → place < length bytes / 8
    → first_words (length bytes / 8 - place) (drop (place * 8) bytes) ≡ word_of (drop (place * 8) bytes) ∷ first_words
    (length bytes / 8 - suc place) (drop (suc place * 8) bytes)
unfolding first_words
from_place bytes place below =
    let count : length bytes / 8 - place ≡ suc (length bytes / 8 - suc place) = omega arith in
    let rest_words : drop 8 (drop (place * 8) bytes) ≡ drop (suc place * 8) bytes =
    drop-drop 8 (place * 8) bytes ∙ ap (λ n. drop n bytes) (let p : place * 8 + 8 ≡ suc place * 8 = omega arith in p) in
    ap (λ n. first_words n (drop (place * 8) bytes)) count ∙ ap
    (λ (bs : List ℕ). word_of (drop (place * 8) bytes) ∷ first_words (length bytes / 8 - suc place) bs) rest_words

next_is_head : (bytes : List ℕ) (place : ℕ) (next : Option Word) → IsNext bytes place next
    → IsHead next (first_words (length bytes / 8 - suc place) (drop (suc place * 8) bytes))
unfolding first_words
next_is_head bytes place next (inl none) =
    let last : length bytes / 8 - suc place ≡ 0 = omega arith in
    inl (none.0, ap (λ n. first_words n (drop (suc place * 8) bytes)) last)
next_is_head bytes place next (inr more) =
    inr (
      word_of (drop (suc place * 8) bytes),
      first_words (length bytes / 8 - suc (suc place)) (drop (suc (suc place) * 8) bytes),
      more.0,
      from_place bytes (suc place) more.1,
    )

-- a fault depends only on the next word
wide_alone : (found : Option WordFault) (word : Word) (more : List Word) → wide_fault found (word ∷ []) ≡ wide_fault found (word ∷ more)
wide_alone None word more = refl
wide_alone (Some found) word more = refl

second_alone : (form : Option OpcodeForm) (first word : Word) (more : List Word)
    → form_fault form first (word ∷ []) ≡ form_fault form first (word ∷ more)
second_alone None first word more = refl
second_alone (Some WideLoad) first word more = wide_alone (fault (row WideLoad) first) word more
second_alone (Some form) first word more = refl

fault_of_head : (first : Word) (next : Option Word) (rest : List Word) → IsHead next rest
    → first_fault first (option_to_list next) ≡ first_fault first rest
fault_of_head first next rest (inl none) = ap (λ (n : Option Word). first_fault first (option_to_list n)) none.0
    ∙ ap (first_fault first) (sym none.1)
fault_of_head first next rest (inr (word, more, is, are)) =
    ap (λ (n : Option Word). first_fault first (option_to_list n)) is
    ∙ second_alone (form_of first.opcode) first word more
    ∙ ap (first_fault first) (sym are)

-- the instruction read at a place
pub begins : (bytes : List ℕ) {place : ℕ} {first : Word} {next : Option Word} (insn : Insn) → place < length bytes / 8
    → first ≡ word_of (drop (place * 8) bytes) → IsNext bytes place next → Begins insn first next → BeginsAt bytes place insn
begins bytes {place} insn below is follows (inl one) = (
  first_words (length bytes / 8 - suc place) (drop (suc place * 8) bytes),
  from_place bytes place below ∙ ap (λ (w : Word). w ∷ first_words (length bytes / 8 - suc place) (drop (suc place * 8) bytes)) (sym is)
      ∙ ap (λ (ws : List Word). ws ++ first_words (length bytes / 8 - suc place) (drop (suc place * 8) bytes)) (sym one),
)
begins bytes insn below is (inl none) (inr (second, has, two)) = absurd (none-some second (sym none.0 ∙ has))
begins bytes {place} {first} insn below is (inr more) (inr (second, has, two)) =
    let rest = first_words (length bytes / 8 - suc (suc place)) (drop (suc (suc place) * 8) bytes) in
    let same : word_of (drop (suc place * 8) bytes) ≡ second =
    (let both : Some (word_of (drop (suc place * 8) bytes)) ≡ Some second = sym more.0 ∙ has in cc) in (
      rest,
      from_place bytes place below ∙ ap (λ (ws : List Word). word_of (drop (place * 8) bytes) ∷ ws) (from_place bytes (suc place) more.1)
          ∙ ap (λ (w : Word). w ∷ word_of (drop (suc place * 8) bytes) ∷ rest) (sym is) ∙ ap (λ (w : Word). first ∷ w ∷ rest) same
          ∙ ap (λ (ws : List Word). ws ++ rest) (sym two),
    )

pub faulty : (bytes : List ℕ) {place : ℕ} {first : Word} {next : Option Word} {fault : WordFault} → place < length bytes / 8
    → first ≡ word_of (drop (place * 8) bytes) → IsNext bytes place next → first_fault first (option_to_list next) ≡ Some fault
    → IsFaultAt bytes place fault
faulty bytes {place} {first} {next} below is follows wrong =
    let rest = first_words (length bytes / 8 - suc place) (drop (suc place * 8) bytes) in (
      first,
      rest,
      from_place bytes place below ∙ ap (λ (w : Word). w ∷ rest) (sym is),
      sym (fault_of_head first next rest (next_is_head bytes place next follows)) ∙ wrong,
    )

-- the words up to a place, and the words from there on
pub words_split : (before after : ℕ) (bytes : List ℕ) → first_words (before + after) bytes ≡ first_words before bytes ++ first_words after
    (drop (before * 8) bytes)
unfolding first_words
words_split zero after bytes = ap (λ n. first_words n bytes) (let e : 0 + after ≡ after = omega arith in e)
words_split (suc before) after bytes =
    let rest = words_split before after (drop 8 bytes) in
    let here : drop (before * 8) (drop 8 bytes) ≡ drop (suc before * 8) bytes =
    drop-drop (before * 8) 8 bytes ∙ ap (λ n. drop n bytes) (let p : 8 + before * 8 ≡ suc before * 8 = omega arith in p) in
    ap (λ n. first_words n bytes) (let e : suc before + after ≡ suc (before + after) = omega arith in e)
    ∙ ap (λ (ws : List Word). word_of bytes ∷ ws) (rest ∙ ap (λ (bs : List ℕ). first_words before (drop 8 bytes) ++ first_words after bs)
    here)

-- a front of words is determined by its length
same_front : (xs ys front rest : List Word) → xs ++ ys ≡ front ++ rest → length xs ≡ length front → xs ≡ front
same_front [] ys [] rest e h = refl
same_front [] ys (f ∷ front) rest e h = absurd (omega arith)
same_front (x ∷ xs) ys [] rest e h = absurd (omega arith)
same_front (x ∷ xs) ys (f ∷ front) rest e h =
    let first : x ≡ f = cc in
    let others = same_front xs ys front rest (let o : xs ++ ys ≡ front ++ rest = cc in o) (omega arith) in
    cc

-- an instruction's words lie within the bytes
pub within : (bytes : List ℕ) (place : ℕ) (insn : Insn) → place < length bytes / 8 → BeginsAt bytes place insn
    → place + length (spelling insn) ≤ length bytes / 8
within bytes place insn below begins =
    let counted = sym (length-first_words (length bytes / 8 - place) (drop (place * 8) bytes)) ∙ ap length begins.1
    ∙ length-append (spelling insn) begins.0 in
    omega arith

-- one more instruction after those so far
module _ (bytes : List ℕ) (place : ℕ) (code : List Insn) (insn : Insn) (below : place < length bytes / 8)
    (so_far : first_words place bytes ≡ code_words code) (begins : BeginsAt bytes place insn) where
  -- the words so far, together with the instruction's
  pub reads_one : first_words (place + length (spelling insn)) bytes ≡ code_words (code ++ insn ∷ [])
  reads_one =
      let words = length (spelling insn) in
      let fits = within bytes place insn below begins in
      let rest = length bytes / 8 - place - words in
      let count : length bytes / 8 - place ≡ words + rest = omega arith in
      let here = drop (place * 8) bytes in
      let both : first_words words here ++ first_words rest (drop (words * 8) here) ≡ spelling insn ++ begins.0 =
      sym (words_split words rest here) ∙ ap (λ n. first_words n here) (sym count) ∙ begins.1 in
      let front = same_front (first_words words here) (first_words rest (drop (words * 8) here)) (spelling insn) begins.0 both
      (length-first_words words here) in
      words_split place words bytes ∙ ap (λ (ws : List Word). ws ++ first_words words here) so_far
      ∙ ap (λ (ws : List Word). code_words code ++ ws) front ∙ flat_map_more spelling [] code insn

  -- instructions of at most the maximum number of bytes fit, so only an allocation can fail
  pub push_fault : (fault : CodeFault) → length bytes ≤ 8 * MAX_WORDS → IsPushFault code insn fault → IsFirstFault bytes fault
  push_fault fault small (inl (late, long)) =
      let fits = within bytes place insn below begins in
      let counted = sym (length-first_words place bytes) ∙ ap length so_far in
      absurd (omega arith)
  push_fault fault small (inr memory) = subst (IsFirstFault bytes) (sym memory) tt

-- a fault after the instructions so far
pub finds_fault : (bytes : List ℕ) (place : ℕ) (code : List Insn) (fault : WordFault) → place < length bytes / 8
    → first_words place bytes ≡ code_words code → IsFaultAt bytes place fault → HasFaultAt bytes place fault
finds_fault bytes place code fault below so_far (first, rest, words, wrong) =
    let count : length bytes / 8 ≡ place + (length bytes / 8 - place) = omega arith in (
      code,
      first,
      rest,
      ap (λ n. first_words n bytes) count ∙ words_split place (length bytes / 8 - place) bytes
          ∙ ap (λ (ws : List Word). ws ++ first_words (length bytes / 8 - place) (drop (place * 8) bytes)) so_far
          ∙ ap (λ (ws : List Word). code_words code ++ ws) words,
      sym (length-first_words place bytes) ∙ ap length so_far,
      wrong,
    )

-- the same for a result
pub reads : (bytes : List ℕ) {place : ℕ} {first : Word} {next : Option Word} (result : Result Insn WordFault) → place < length bytes / 8
    → first ≡ word_of (drop (place * 8) bytes) → IsNext bytes place next → IfOk result (λ insn. Begins insn first next)
    → IfOk result (BeginsAt bytes place)
reads bytes (Ok insn) below is follows begin = begins bytes insn below is follows begin
reads bytes (Err fault) below is follows begin = tt

pub refuses : (bytes : List ℕ) {place : ℕ} {first : Word} {next : Option Word} (result : Result Insn WordFault) → place < length bytes / 8
    → first ≡ word_of (drop (place * 8) bytes) → IsNext bytes place next
    → IfErr result (λ fault. first_fault first (option_to_list next) ≡ Some fault) → IfErr result (IsFaultAt bytes place)
refuses bytes (Ok insn) below is follows wrong = tt
refuses bytes (Err fault) below is follows wrong = faulty bytes below is follows wrong

-- the next word, if there was one to read
word_of-take : (bytes : List ℕ) → 8 ≤ length bytes → word_of (take 8 bytes) ≡ word_of bytes
word_of-take (a ∷ b ∷ c ∷ d ∷ e ∷ f ∷ g ∷ h ∷ rest) long = refl
word_of-take bytes long = absurd (omega arith)

pub next_of : (bytes : List ℕ) (place : ℕ) (after : Option (Bor (List ℕ))) (next : Option Word) → place < length bytes / 8
    → MatchOption after (next ≡ None) (λ x. next ≡ Some (word_of x.now))
    → MatchOption after (length bytes < (place + 1) * 8 + 8)
    (λ x. ((place + 1) * 8 + 8 ≤ length bytes) × (x.now ≡ slice_range bytes ((place + 1) * 8) ((place + 1) * 8 + 8)))
    → IsNext bytes place next
next_of bytes place None next below none short = inl (none, omega arith)
next_of bytes place (Some x) next below some (long, are) =
    let size : 8 ≤ length (drop ((place + 1) * 8) bytes) = (let counted = length-drop ((place + 1) * 8) bytes in omega arith) in
    let eight : slice_range bytes ((place + 1) * 8) ((place + 1) * 8 + 8) ≡ take 8 (drop ((place + 1) * 8) bytes) =
    ap (λ n. take n (drop ((place + 1) * 8) bytes)) (let e : (place + 1) * 8 + 8 - (place + 1) * 8 ≡ 8 = omega arith in e) in
    let same : (place + 1) * 8 ≡ suc place * 8 = omega arith in
    inr (
      some ∙ ap Some (ap word_of (are ∙ eight) ∙ word_of-take (drop ((place + 1) * 8) bytes) size
          ∙ ap (λ n. word_of (drop n bytes)) same),
      omega arith,
    )

-- nonempty bytes have an instruction
pub never_empty : (bytes : List ℕ) (code : List Insn) (result : Result (List Insn) CodeFault) → length bytes % 8 ≡ 0 → 0 < length bytes
    → words_of bytes ≡ code_words code → IfErr result (λ fault. (fault ≡ code_fault.Empty) × (code ≡ []))
    → IfErr result (IsFirstFault bytes)
never_empty bytes code (Ok given) whole some words none = tt
never_empty bytes code (Err fault) whole some words none =
    let counted = sym (length-first_words (length bytes / 8) bytes) ∙ ap length words
    ∙ ap (λ (c : List Insn). length (code_words c)) none.1 in
    absurd (omega arith)
