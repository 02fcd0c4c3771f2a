-- Paired quotes, and the quote that closes a text.
use Rattle.std.proofs.Common.{◌≡◌, ℕ, ◌+◌, ◌<◌, ◌≤◌, false, List, [], ◌∷◌, ◌++◌, length, get_or, take, drop}
use Rattle.std.proofs.Common.{refl, sym, ap, ◌∙◌, arith, append_assoc, length-append, drop-cons, add-one}
use Rattle.std.proofs.lemmas.Bool.Decides.{nat_tests}
use Rattle.std.proofs.lemmas.List.{drop_all, length-drop, take_more}
use Rattle.cql2_tokens.specs.Lexed.{ArePaired, begins, is_quote, none, other, pair}

pub paired-joined : (text more : List ℕ) → ArePaired text → ArePaired more → ArePaired (text ++ more)
paired-joined _ more none are = are
paired-joined _ more (pair text before) are = pair (text ++ more) (paired-joined text more before are)
paired-joined _ more (other byte text plain before) are = other byte (text ++ more) plain (paired-joined text more before are)

-- pairs up to an index, and more of them up to a quote
pub record MorePairs (text : List ℕ) (at : ℕ) (spelling rest : List ℕ) : Type 0 where
  pub later : List ℕ
  pub joined : length spelling ≡ at + length later
  pub paired : ArePaired later
  pub left : drop at text ≡ later ++ 39 ∷ rest

pub all-pairs : (text spelling rest : List ℕ) → text ≡ spelling ++ 39 ∷ rest → ArePaired spelling → MorePairs text 0 spelling rest
all-pairs text spelling rest is paired =
    record { later = spelling; joined = omega arith; paired = paired; left = is }

step-drop : (text : List ℕ) (at : ℕ) → at < length text → drop at text ≡ get_or text at 0 ∷ drop (at + 1) text
step-drop text at within = rw (add-one, drop-cons text at 0)

module _ (text : List ℕ) (at : ℕ) (spelling rest : List ℕ) where
  plain-by : (later : List ℕ) → length spelling ≡ at + length later → ArePaired later
      → get_or text at 0 ∷ drop (at + 1) text ≡ later ++ 39 ∷ rest
      → is_quote (get_or text at 0) ≡ false → MorePairs text (at + 1) spelling rest
  plain-by _ joined none left plain = let e : get_or text at 0 ≡ 39 = cc in absurd (grind (arith, nat_tests))
  plain-by _ joined (pair later paired) left plain = let e : get_or text at 0 ≡ 39 = cc in absurd (grind (arith, nat_tests))
  plain-by _ joined (other byte later no_quote paired) left plain =
      record { later = later; joined = omega arith; paired = paired; left = cc }

  pub plain-byte : MorePairs text at spelling rest → at < length text → is_quote (get_or text at 0) ≡ false
      → MorePairs text (at + 1) spelling rest
  plain-byte are within plain =
      plain-by are.later are.joined are.paired (sym (step-drop text at within) ∙ are.left) plain

  pair-by : (later : List ℕ) → length spelling ≡ at + length later → ArePaired later
      → get_or text at 0 ∷ get_or text (at + 1) 0 ∷ drop (at + 2) text ≡ later ++ 39 ∷ rest
      → begins is_quote rest ≡ false → get_or text at 0 ≡ 39 → get_or text (at + 1) 0 ≡ 39 → MorePairs text (at + 2) spelling rest
  pair-by _ joined none left single first second =
      let e : rest ≡ get_or text (at + 1) 0 ∷ drop (at + 2) text = cc in
      let f : begins is_quote (39 ∷ drop (at + 2) text) ≡ false = rw (e, second) at single in cc
  pair-by _ joined (pair later paired) left single first second =
      record { later = later; joined = omega arith; paired = paired; left = cc }
  pair-by _ joined (other byte later no_quote paired) left single first second =
      let e : byte ≡ 39 = cc in absurd (grind (arith, nat_tests))

  two-drop : at + 1 < length text → drop at text ≡ get_or text at 0 ∷ get_or text (at + 1) 0 ∷ drop (at + 2) text
  two-drop within =
      let lt : at < length text = omega arith in
      let e : at + 1 + 1 ≡ at + 2 = omega arith in
      step-drop text at lt ∙ ap (λ (l : List ℕ). get_or text at 0 ∷ l) (rw e at (step-drop text (at + 1) within))

  pub pair-of-quotes : MorePairs text at spelling rest → begins is_quote rest ≡ false → at + 1 < length text → get_or text at 0 ≡ 39
      → get_or text (at + 1) 0 ≡ 39 → MorePairs text (at + 2) spelling rest
  pair-of-quotes are single within first second =
      pair-by are.later are.joined are.paired (sym (two-drop within) ∙ are.left) single first second

  last-by : (later : List ℕ) → length spelling ≡ at + length later → ArePaired later
      → get_or text at 0 ∷ drop (at + 1) text ≡ later ++ 39 ∷ rest
      → get_or text at 0 ≡ 39 → begins is_quote (drop (at + 1) text) ≡ false → at ≡ length spelling
  last-by _ joined none left first single = omega arith
  last-by _ joined (pair later paired) left first single =
      let e : drop (at + 1) text ≡ 39 ∷ (later ++ 39 ∷ rest) = cc in
      let f : begins is_quote (39 ∷ (later ++ 39 ∷ rest)) ≡ false = rw e at single in cc
  last-by _ joined (other byte later no_quote paired) left first single = let e : byte ≡ 39 = cc in absurd (grind (arith, nat_tests))

  pub last-quote : MorePairs text at spelling rest → at < length text → get_or text at 0 ≡ 39 → begins is_quote (drop (at + 1) text) ≡ false
      → at ≡ length spelling
  last-quote are within first single =
      last-by are.later are.joined are.paired (sym (step-drop text at within) ∙ are.left) first single

  pub no-quote : MorePairs text at spelling rest → length text ≤ at → ⊥
  no-quote are past =
      omega (arith, ap length are.left, length-append are.later (39 ∷ rest), length-drop at text)

pub take-plain : (text : List ℕ) (at : ℕ) → ArePaired (take at text) → at < length text → is_quote (get_or text at 0) ≡ false
    → ArePaired (take (at + 1) text)
take-plain text at paired within plain = rw (take_more text at 0 within) (paired-joined _ _ paired (other _ [] plain none))

pub take-pair : (text : List ℕ) (at : ℕ) → ArePaired (take at text) → at + 1 < length text → get_or text at 0 ≡ 39
    → get_or text (at + 1) 0 ≡ 39 → ArePaired (take (at + 2) text)
take-pair text at paired within first second =
    let e : at + 2 ≡ at + 1 + 1 = omega arith in
    let lt : at < length text = omega arith in
    rw (e, take_more text (at + 1) 0 within, take_more text at 0 lt, first, second, append_assoc)
    (paired-joined (take at text) _ paired (pair [] none))

pub none-past : (text : List ℕ) (i : ℕ) → length text ≤ i → begins is_quote (drop i text) ≡ false
none-past text i past = rw (drop_all i text past) refl

pub other-at : (text : List ℕ) (i : ℕ) → i < length text → is_quote (get_or text i 0) ≡ false → begins is_quote (drop i text) ≡ false
other-at text i within plain = rw (step-drop text i within) plain
