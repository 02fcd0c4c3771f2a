-- The words of bytes, one by one.
use Rattle.std.proofs.Common.{◌≡◌, ℕ, zero, suc, ◌+◌, ◌*◌, List, ◌∷◌, ◌++◌, length, drop, refl, ap, ◌∙◌, subst, arith}
use Rattle.std.proofs.lemmas.List.{drop-drop}
use Rattle.bpf_insn.specs.Word.{word_of, first_words}
use Rattle.bpf_insn.specs.declared.word.Word.{Word}

pub length-first_words : (count : ℕ) (bytes : List ℕ) → length (first_words count bytes) ≡ count
unfolding first_words
length-first_words zero bytes = refl
length-first_words (suc count) bytes = ap suc (length-first_words count (drop 8 bytes))

-- the words of a longer front: those of a shorter one, the next word, and the rest
pub first_words_split : (before after total : ℕ) (bytes : List ℕ) → total ≡ before + suc after
    → first_words total bytes ≡ first_words before bytes ++ word_of (drop (before * 8) bytes) ∷ first_words after
    (drop (before * 8 + 8) bytes)
unfolding first_words
first_words_split zero after total bytes e = subst (λ n. first_words n bytes ≡ word_of bytes ∷ first_words after (drop 8 bytes))
    (let p : suc after ≡ total = omega arith in p) refl
first_words_split (suc before) after zero bytes e = absurd (omega arith)
first_words_split (suc before) after (suc total) bytes e =
    let rest = first_words_split before after total (drop 8 bytes) (omega arith) in
    let here : drop (before * 8) (drop 8 bytes) ≡ drop (suc before * 8) bytes =
    drop-drop (before * 8) 8 bytes ∙ ap (λ n. drop n bytes) (let p : 8 + before * 8 ≡ suc before * 8 = omega arith in p) in
    let next : drop (before * 8 + 8) (drop 8 bytes) ≡ drop (suc before * 8 + 8) bytes =
    drop-drop (before * 8 + 8) 8 bytes ∙ ap (λ n. drop n bytes) (let p : 8 + (before * 8 + 8) ≡ suc before * 8 + 8 = omega arith in p)
    in
    ap (λ (words : List Word). word_of bytes ∷ words) (rw (← here, ← next) rest)
