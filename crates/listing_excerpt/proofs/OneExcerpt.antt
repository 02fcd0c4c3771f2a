-- A refused program has one excerpt.
use Rattle.std.proofs.Common.{◌≡◌, ◌⊎◌, inl, inr, ℕ, ◌*◌, ◌≤◌, All, List, [], ◌∷◌, ◌++◌, length, map, take, drop, refl, sym, ap, ◌∙◌, arith, subst}
use Rattle.std.proofs.Common.{append-nil}
use Rattle.std.specs.Prelude.{Option, Some, None}
use Rattle.std.specs.List.{flat_map}
use Rattle.std.proofs.lemmas.List.{length-take}
use Rattle.std.proofs.lemmas.List.Elements.{All-head, All-tail}
use Rattle.std.proofs.Math.Nat.{min-le_right}
use Rattle.bpf_flow.specs.declared.fault.FlowFault.{FlowFault}
use Rattle.bpf_insn.proofs.CodeLemmas.{one_code}
use Rattle.bpf_insn.proofs.SpellingLemmas.{one_instruction}
use Rattle.bpf_insn.specs.Code.{IsCodeOf, spelling}
use Rattle.bpf_insn.specs.Word.{first_words, word_of}
use Rattle.bpf_insn.specs.declared.fault.CodeFault.{CodeFault}
use Rattle.bpf_insn.specs.declared.fault.CodeFault.TheVariants.{InWord}
use Rattle.bpf_insn.specs.declared.instruction.Insn.{Insn}
use Rattle.bpf_insn.specs.declared.word.Word.{Word}
use Rattle.listing_lines.specs.SourceLines.{SourceLine}
use Rattle.listing_excerpt.specs.Excerpt.{IsExcerpt, word_text}
use Rattle.listing_excerpt.specs.Listed.{ListsCodeFault, ListsFlowFault}
use Rattle.listing_excerpt.specs.Reading.{Begins, from_place}
use Rattle.listing_excerpt.specs.Reason.{flow_reason, place_of}
use Rattle.listing_excerpt.specs.declared.excerpt.PlacedWord.{PlacedWord}
use Rattle.listing_excerpt.proofs.ReadingLemmas.{one-or-two, words-are}

-- bytes begin with the words of one instruction

-- the first word of sixteen bytes is that of the first eight
same_first_word : (bytes : List ℕ) → 8 ≤ length bytes → word_of (take 8 bytes) ≡ word_of (take 16 bytes)
same_first_word (a ∷ b ∷ c ∷ d ∷ e ∷ f ∷ g ∷ h ∷ rest) long = refl
same_first_word bytes long = absurd (omega arith)

spells : (bytes : List ℕ) (count : ℕ) (insn : Insn) → length (spelling insn) ≡ count → IsCodeOf (take (count * 8) bytes) (insn ∷ [])
    → first_words count (take (count * 8) bytes) ≡ spelling insn
spells bytes count insn long is =
    ap (λ (n : ℕ). first_words n (take (count * 8) bytes)) (sym long ∙ words-are (take (count * 8) bytes) insn is) ∙ is.words
    ∙ append-nil (spelling insn)

-- no instruction of one word begins an instruction of two
not_both : (bytes : List ℕ) (first wide : Insn) → length (spelling first) ≡ 1 → length (spelling wide) ≡ 2 → IsCodeOf (take 8 bytes) (first ∷ [])
    → IsCodeOf (take 16 bytes) (wide ∷ []) → ⊥
unfolding first_words
not_both bytes first wide one two is also =
    let words = words-are (take 8 bytes) first is in
    let taken = length-take 8 bytes in
    let few = min-le_right 8 (length bytes) in
    let second : Word = word_of (drop 8 (take 16 bytes)) in
    let begins : word_of (take 8 bytes) ∷ [] ≡ spelling first = spells bytes 1 first one is in
    let whole : word_of (take 16 bytes) ∷ second ∷ [] ≡ spelling wide = spells bytes 2 wide two also in
    let front : spelling first ++ second ∷ [] ≡ spelling wide ++ [] =
    ap (λ (words : List Word). words ++ second ∷ []) (sym begins)
    ∙ ap (λ (word : Word). word ∷ second ∷ []) (same_first_word bytes (omega (arith, words, taken, few, one))) ∙ whole
    ∙ sym (append-nil (spelling wide)) in
    let same = ap (λ (insn : Insn). length (spelling insn)) (one_instruction first wide (second ∷ []) [] front) in
    absurd (omega (arith, one, two, same))

same_length : (bytes : List ℕ) (count : ℕ) (a b : Insn) → length (spelling a) ≡ count → length (spelling b) ≡ count
    → IsCodeOf (take (length (spelling a) * 8) bytes) (a ∷ []) → IsCodeOf (take (length (spelling b) * 8) bytes) (b ∷ []) → a ≡ b
same_length bytes count a b long also is other =
    let same = subst (λ (n : ℕ). IsCodeOf (take (n * 8) bytes) (b ∷ [])) (also ∙ sym long) other in
    let codes : a ∷ [] ≡ b ∷ [] = one_code (a ∷ []) (b ∷ []) (sym is.words ∙ same.words) in
    cc

same_insn : (bytes : List ℕ) (a b : Insn) → (length (spelling a) ≡ 1) ⊎ (length (spelling a) ≡ 2)
    → (length (spelling b) ≡ 1) ⊎ (length (spelling b) ≡ 2) → IsCodeOf (take (length (spelling a) * 8) bytes) (a ∷ [])
    → IsCodeOf (take (length (spelling b) * 8) bytes) (b ∷ []) → a ≡ b
same_insn bytes a b (inl one) (inl also) is other = same_length bytes 1 a b one also is other
same_insn bytes a b (inr two) (inr also) is other = same_length bytes 2 a b two also is other
same_insn bytes a b (inl one) (inr two) is other =
    absurd (not_both bytes a b one two (subst (λ (n : ℕ). IsCodeOf (take (n * 8) bytes) (a ∷ [])) one is)
    (subst (λ (n : ℕ). IsCodeOf (take (n * 8) bytes) (b ∷ [])) two other))
same_insn bytes a b (inr two) (inl one) is other =
    absurd (not_both bytes b a one two (subst (λ (n : ℕ). IsCodeOf (take (n * 8) bytes) (b ∷ [])) one other)
    (subst (λ (n : ℕ). IsCodeOf (take (n * 8) bytes) (a ∷ [])) two is))

one_insn : (bytes : List ℕ) (a b : Option Insn) → Begins bytes a → Begins bytes b → a ≡ b
one_insn bytes None None is also = refl
one_insn bytes None (Some b) is also = absurd (is b also)
one_insn bytes (Some a) None is also = absurd (also a is)
one_insn bytes (Some a) (Some b) is also = ap Some (same_insn bytes a b (one-or-two a) (one-or-two b) is also)

-- an excerpt has one text

abbrev BeginsAt : List ℕ → PlacedWord → Type 0
BeginsAt program word = Begins (from_place program word.place) word.insn

same_word : (word other : PlacedWord) → word.place ≡ other.place → word.insn ≡ other.insn → word ≡ other
same_word word other places insns =
    ap (λ (place : ℕ). record word { place = place }) places ∙ ap (λ (insn : Option Insn). record other { insn = insn }) insns

same_words : (program : List ℕ) (words others : List PlacedWord) → map (λ word. word.place) words ≡ map (λ word. word.place) others
    → All (BeginsAt program) words → All (BeginsAt program) others → words ≡ others
same_words program [] [] places are also = refl
same_words program (word ∷ words) (other ∷ others) places are also =
    let place : word.place ≡ other.place = cc in
    let rest : map (λ word. word.place) words ≡ map (λ word. word.place) others = cc in
    let insn = one_insn (from_place program other.place) word.insn other.insn
    (subst (λ (place : ℕ). Begins (from_place program place) word.insn) place (All-head (BeginsAt program) word words are))
    (All-head (BeginsAt program) other others also) in
    let first = same_word word other place insn in
    let later = same_words program words others rest (All-tail (BeginsAt program) word words are)
    (All-tail (BeginsAt program) other others also) in
    cc
same_words program words others places are also = absurd (let no : ⊥ = cc in no)

one_excerpt : {program : List ℕ} {lines : List SourceLine} {refused : ℕ} {reason text other : List ℕ}
    → IsExcerpt program lines refused reason text → IsExcerpt program lines refused reason other → text ≡ other
one_excerpt {program} {lines} {refused} {reason} is also =
    is.is
    ∙ ap (λ (words : List PlacedWord). flat_map (word_text program lines refused reason) words)
    (same_words program is.words also.words (is.are_words.places_are ∙ sym also.are_words.places_are) is.are_words.insns_are
    also.are_words.insns_are)
    ∙ sym also.is

pub one_list_of_code_fault : (program : List ℕ) (lines : List SourceLine) (fault : CodeFault) (text other : List ℕ)
    → ListsCodeFault program lines fault text → ListsCodeFault program lines fault other → text ≡ other
one_list_of_code_fault program lines (InWord place fault) text other is also = one_excerpt is also
one_list_of_code_fault program lines fault text other is also = is ∙ sym also

pub one_list_of_flow_fault : (program : List ℕ) (lines : List SourceLine) (fault : FlowFault) (text other : List ℕ)
    → ListsFlowFault program lines fault text → ListsFlowFault program lines fault other → text ≡ other
one_list_of_flow_fault program lines fault text other is also =
    let insn = one_insn (from_place program (place_of fault)) is.insn also.insn is.begins also.begins in
    one_excerpt (subst (λ (insn : Option Insn). IsExcerpt program lines (place_of fault) (flow_reason fault insn) text) insn is.excerpt)
    also.excerpt
