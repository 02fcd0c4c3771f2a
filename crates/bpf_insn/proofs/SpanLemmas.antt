-- Where instructions begin and end, and what is between them.
use Rattle.std.proofs.Common.{◌≡◌, ◌≢◌, ℕ, zero, suc, ◌+◌, ◌-◌, ◌<◌, ◌≤◌, List, [], ◌∷◌, ◌++◌, length, take, drop, get_or, Some, None}
use Rattle.std.proofs.Common.{IsSome, is_some, refl, sym, ap, ◌∙◌, arith, inl, inr}
use Rattle.std.proofs.lemmas.Bool.{cases_lt}
use Rattle.std.proofs.lemmas.List.{take_more, take-append-drop, drop_more}
use Rattle.std.proofs.lemmas.Option.{none-some}
use Rattle.bpf_insn.specs.Form.{spelling}
use Rattle.bpf_insn.specs.Code.{word_count, instruction_at, place_of}
use Rattle.bpf_insn.specs.declared.instruction.Insn.{Insn}
use Rattle.bpf_insn.proofs.PlaceLemmas.{word_count-cons, word_count-append, word_count-one, instruction_at-inside, instruction_at-after}
use Rattle.bpf_insn.proofs.PlaceLemmas.{instruction_at-middle}

-- the instruction with an index, with what surrounds it
around : (code : List Insn) (i : ℕ) (insn : Insn) → i < length code → insn ≡ get_or code i insn
    → code ≡ take i code ++ insn ∷ drop (i + 1) code
around code i insn within is =
    sym (take-append-drop i code)
    ∙ ap (λ (rest : List Insn). take i code ++ rest) (drop_more code i insn within ∙ ap (λ (x : Insn). x ∷ drop (i + 1) code) (sym is))

-- it begins at its place
pub begins_at_its_place : (code : List Insn) (i : ℕ) (insn : Insn) → i < length code → insn ≡ get_or code i insn
    → instruction_at code (place_of code i) ≡ Some insn
begins_at_its_place code i insn within is =
    ap (λ (c : List Insn). instruction_at c (place_of code i)) (around code i insn within is)
    ∙ instruction_at-middle (take i code) insn (drop (i + 1) code)

-- and the next one begins after its words
pub place_of-more : (code : List Insn) (i : ℕ) (insn : Insn) → i < length code → insn ≡ get_or code i insn
    → place_of code (i + 1) ≡ place_of code i + length (spelling insn)
place_of-more code i insn within is =
    ap word_count (take_more code i insn within) ∙ word_count-append (take i code) (get_or code i insn ∷ [])
    ∙ ap (λ (x : Insn). word_count (take i code) + word_count (x ∷ [])) (sym is)
    ∙ ap (λ (n : ℕ). word_count (take i code) + n) (word_count-one insn)

-- an instruction after the first one's start begins after the first one's words
not_inside : (first : Insn) (code : List Insn) (place : ℕ) (insn : Insn) → 0 < place → instruction_at (first ∷ code) place ≡ Some insn
    → length (spelling first) ≤ place
not_inside first code place insn above is_insn = elim (cases_lt place (length (spelling first))) as (λ _. length (spelling first) ≤ place) [
  | inl below ↦ absurd (none-some insn (sym (instruction_at-inside first code place above below) ∙ is_insn))
  | inr past ↦ past
]

-- no instruction begins within the words of another
pub nothing_within : (code : List Insn) (place : ℕ) (insn : Insn) (inner : ℕ) → instruction_at code place ≡ Some insn → place < inner
    → inner < place + length (spelling insn) → instruction_at code inner ≡ None
nothing_within [] place insn inner is_insn above below = refl
nothing_within (first ∷ code) zero insn inner is_insn above below =
    let same : first ≡ insn = cc in
    let long = ap (λ (x : Insn). length (spelling x)) same in
    instruction_at-inside first code inner above (omega arith)
nothing_within (first ∷ code) (suc place) insn inner is_insn above below =
    let past = not_inside first code (suc place) insn (omega arith) is_insn in
    instruction_at-after first code inner (omega arith)
    ∙ nothing_within code (suc place - length (spelling first)) insn (inner - length (spelling first))
    (sym (instruction_at-after first code (suc place) past) ∙ is_insn) (omega arith) (omega arith)

-- an instruction ends within the code
pub ends_within : (code : List Insn) (place : ℕ) (insn : Insn) → instruction_at code place ≡ Some insn
    → place + length (spelling insn) ≤ word_count code
ends_within [] place insn is_insn = absurd (none-some insn is_insn)
ends_within (first ∷ code) zero insn is_insn =
    let same : first ≡ insn = cc in
    let long = ap (λ (x : Insn). length (spelling x)) same in let sum = word_count-cons first code in omega arith
ends_within (first ∷ code) (suc place) insn is_insn =
    let past = not_inside first code (suc place) insn (omega arith) is_insn in
    let rest = ends_within code (suc place - length (spelling first)) insn
    (sym (instruction_at-after first code (suc place) past) ∙ is_insn) in
    let sum = word_count-cons first code in omega arith

-- a place lies within the words of an instruction, after its first word
pub record IsWithin (code : List Insn) (place : ℕ) : Type 0 where
  pub first : ℕ
  pub insn : Insn
  pub is_insn : instruction_at code first ≡ Some insn
  pub above : first < place
  pub below : place < first + length (spelling insn)

-- each place of a code at which no instruction begins does so
pub lies_within : (code : List Insn) (place : ℕ) → place < word_count code → instruction_at code place ≡ None → IsWithin code place
lies_within [] place below none = absurd (let nothing : word_count [] ≡ 0 = refl in omega arith)
lies_within (first ∷ code) zero below none = absurd (none-some first (sym none))
lies_within (first ∷ code) (suc place) below none = elim (cases_lt (suc place) (length (spelling first))) as
    (λ _. IsWithin (first ∷ code) (suc place)) [
      | inl inside ↦ record { first = 0; insn = first; is_insn = refl; above = omega arith; below = omega arith }
      | inr past ↦
          let sum = word_count-cons first code in
          let there = lies_within code (suc place - length (spelling first)) (omega arith)
          (sym (instruction_at-after first code (suc place) past) ∙ none) in
          let back : there.first + length (spelling first) - length (spelling first) ≡ there.first = omega arith in
          let above = there.above in
          let below' = there.below in
          record {
            first = there.first + length (spelling first);
            insn = there.insn;
            is_insn = instruction_at-after first code (there.first + length (spelling first)) (omega arith) ∙ ap (instruction_at code) back
                ∙ there.is_insn;
            above = omega arith;
            below = omega arith;
          }
    ]

-- a nonempty code begins with an instruction
begins_somewhere : (before : List Insn) (last : Insn) → IsSome (instruction_at (before ++ last ∷ []) 0)
begins_somewhere [] last = refl
begins_somewhere (first ∷ before) last = refl

-- the next instruction begins after an instruction other than the last one
pub next_begins : (before : List Insn) (last : Insn) (place : ℕ) (insn : Insn) → instruction_at (before ++ last ∷ []) place ≡ Some insn
    → insn ≢ last → IsSome (instruction_at (before ++ last ∷ []) (place + length (spelling insn)))
next_begins [] last zero insn is_insn other = absurd (other (let e : insn ≡ last = cc in e))
next_begins [] last (suc place) insn is_insn other =
    let past = not_inside last [] (suc place) insn (omega arith) is_insn in
    absurd (none-some insn (sym (instruction_at-after last [] (suc place) past) ∙ is_insn))
next_begins (first ∷ before) last zero insn is_insn other =
    let same : first ≡ insn = cc in
    let long = ap (λ (x : Insn). length (spelling x)) same in
    let start : 0 + length (spelling insn) - length (spelling first) ≡ 0 = omega arith in
    ap is_some (instruction_at-after first (before ++ last ∷ []) (0 + length (spelling insn)) (omega arith)
    ∙ ap (instruction_at (before ++ last ∷ [])) start)
    ∙ begins_somewhere before last
next_begins (first ∷ before) last (suc place) insn is_insn other =
    let rest = before ++ last ∷ [] in
    let past = not_inside first rest (suc place) insn (omega arith) is_insn in
    let there = next_begins before last (suc place - length (spelling first)) insn
    (sym (instruction_at-after first rest (suc place) past) ∙ is_insn) other in
    let shift : suc place + length (spelling insn) - length (spelling first) ≡ suc place - length (spelling first) + length
    (spelling insn) = omega arith in
    ap is_some (instruction_at-after first rest (suc place + length (spelling insn)) (omega arith) ∙ ap (instruction_at rest) shift)
    ∙ there
