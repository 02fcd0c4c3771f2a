-- Instructions by place and by index.
use Rattle.std.proofs.Common.{◌≡◌, MatchOption, ℕ, zero, suc, ◌+◌, ◌-◌, ◌<◌, ◌≤◌, ◌==◌, nat_lt, true, false, List, [], ◌∷◌, ◌++◌, length}
use Rattle.std.proofs.Common.{map, take, get_or, Option, Some, None, IsSome, is_some, option_and_then, IfSome, slice_get, refl, sym, ap}
use Rattle.std.proofs.Common.{◌∙◌, subst, arith, inl, inr, option_map}
use Rattle.std.specs.Borrow.{Bor}
use Rattle.std.specs.Option.{option_flatten, option_copied}
use Rattle.std.proofs.lemmas.Option.{slice_get_past, slice_get_read}
use Rattle.std.proofs.lemmas.Bool.{false≢true, cases_lt}
use Rattle.std.proofs.lemmas.Bool.Decides.{nat_tests}
use Rattle.std.proofs.lemmas.List.{append_assoc, append-nil, length-append}
use Rattle.std.proofs.lemmas.Grind.{flat_map-append}
use Rattle.std.proofs.lemmas.List.{length-map}
use Rattle.bpf_insn.specs.Form.{further_words, spelling}
use Rattle.bpf_insn.specs.Code.{code_words, word_count, instruction_at, index_at, place_of}
use Rattle.bpf_insn.specs.Table.{places_from, indexes_in, indexes_from}
use Rattle.bpf_insn.specs.declared.word.Word.{Word}
use Rattle.bpf_insn.specs.declared.code.TheConstants.{MAX_WORDS}
use Rattle.bpf_insn.specs.declared.instruction.Insn.{Insn}

-- the number of words that instructions take
pub word_count-cons : (insn : Insn) (code : List Insn) → word_count (insn ∷ code) ≡ length (spelling insn) + word_count code
word_count-cons insn code = length-append (spelling insn) (code_words code)

pub word_count-append : (before after : List Insn) → word_count (before ++ after) ≡ word_count before + word_count after
word_count-append before after = ap length (flat_map-append spelling before after) ∙ length-append (code_words before) (code_words after)

pub word_count-one : (insn : Insn) → word_count (insn ∷ []) ≡ length (spelling insn)
word_count-one insn = word_count-cons insn [] ∙ (let none : word_count [] ≡ 0 = refl in omega arith)

-- a code has at least one word per instruction
pub few_instructions : (code : List Insn) → length code ≤ word_count code
few_instructions [] = omega arith
few_instructions (insn ∷ code) = let rest = few_instructions code in let sum = word_count-cons insn code in omega arith

-- one more instruction
pub places_from-more : (place : ℕ) (code : List Insn) (insn : Insn)
    → places_from place (code ++ insn ∷ []) ≡ places_from place code ++ (place + word_count code) ∷ []
places_from-more place [] insn = ap (λ (p : ℕ). p ∷ []) (omega arith)
places_from-more place (first ∷ code) insn =
    let rest = places_from-more (place + length (spelling first)) code insn in
    let sum : place + length (spelling first) + word_count code ≡ place + word_count (first ∷ code) =
    omega (arith, word_count-cons first code) in
    ap (λ (ps : List ℕ). place ∷ ps) (rest ∙ ap (λ (p : ℕ). places_from (place + length (spelling first)) code ++ p ∷ []) sum)

pub indexes_from-more : (index : ℕ) (code : List Insn) (insn : Insn)
    → indexes_from index (code ++ insn ∷ []) ≡ indexes_from index code ++ indexes_in (index + length code) (spelling insn)
indexes_from-more index [] insn = append-nil (indexes_in index (spelling insn)) ∙ ap (λ (i : ℕ). indexes_in i (spelling insn)) (omega arith)
indexes_from-more index (first ∷ code) insn =
    let rest = indexes_from-more (suc index) code insn in
    let sum : suc index + length code ≡ index + length (first ∷ code) = omega arith in
    ap (λ (xs : List (Option ℕ)). indexes_in index (spelling first) ++ xs)
    (rest ∙ ap (λ (i : ℕ). indexes_from (suc index) code ++ indexes_in i (spelling insn)) sum)
    ∙ sym (append_assoc (indexes_in index (spelling first)) (indexes_from (suc index) code)
    (indexes_in (index + length (first ∷ code)) (spelling insn)))

-- the number of indexes is that of the words, and the number of places is that of the instructions
length-indexes_in : (index : ℕ) (words : List Word) → length (indexes_in index words) ≡ length words
length-indexes_in index [] = refl
length-indexes_in index (first ∷ rest) = ap suc (length-map rest (λ (w : Word). let none : Option ℕ = None in none))

pub length-indexes_from : (index : ℕ) (code : List Insn) → length (indexes_from index code) ≡ word_count code
length-indexes_from index [] = refl
length-indexes_from index (insn ∷ code) =
    length-append (indexes_in index (spelling insn)) (indexes_from (suc index) code)
    ∙ (let here = length-indexes_in index (spelling insn) in let rest = length-indexes_from (suc index) code in let sum =
    word_count-cons insn code in omega arith)

pub length-places_from : (place : ℕ) (code : List Insn) → length (places_from place code) ≡ length code
length-places_from place [] = refl
length-places_from place (insn ∷ code) = ap suc (length-places_from (place + length (spelling insn)) code)

-- the place of an instruction
pub places_from-at : (place : ℕ) (code : List Insn) (index d : ℕ) → index < length code
    → get_or (places_from place code) index d ≡ place + place_of code index
places_from-at place [] index d h = absurd (omega arith)
places_from-at place (insn ∷ code) zero d h = let none : place_of (insn ∷ code) 0 ≡ 0 = refl in omega arith
places_from-at place (insn ∷ code) (suc index) d h =
    let rest = places_from-at (place + length (spelling insn)) code index d (omega arith) in
    let sum = word_count-cons insn (take index code) in
    rest ∙ (let e : place + length (spelling insn) + place_of code index ≡ place + place_of (insn ∷ code) (suc index) = omega arith in e)

-- a place in relation to the words of the first instruction: at its start, within it, or after it
starts_not : (place words : ℕ) → 0 < place → (place == 0) ≡ false
starts_not place words h = grind (arith, nat_tests)

is_within : (place words : ℕ) → place < words → nat_lt place words ≡ true
is_within place words h = grind (arith, nat_tests)

is_past : (place words : ℕ) → words ≤ place → nat_lt place words ≡ false
is_past place words h = grind (arith, nat_tests)

pub instruction_at-inside : (insn : Insn) (code : List Insn) (place : ℕ) → 0 < place → place < length (spelling insn)
    → instruction_at (insn ∷ code) place ≡ None
instruction_at-inside insn code place above below =
    rw (starts_not place (length (spelling insn)) above, is_within place (length (spelling insn)) below) refl

pub index_at-inside : (insn : Insn) (code : List Insn) (place : ℕ) → 0 < place → place < length (spelling insn)
    → index_at (insn ∷ code) place ≡ None
index_at-inside insn code place above below =
    rw (starts_not place (length (spelling insn)) above, is_within place (length (spelling insn)) below) refl

pub instruction_at-after : (insn : Insn) (code : List Insn) (place : ℕ) → length (spelling insn) ≤ place
    → instruction_at (insn ∷ code) place ≡ instruction_at code (place - length (spelling insn))
instruction_at-after insn code place past =
    rw (starts_not place (length (spelling insn)) (omega arith), is_past place (length (spelling insn)) past) refl

pub index_at-after : (insn : Insn) (code : List Insn) (place : ℕ) → length (spelling insn) ≤ place
    → index_at (insn ∷ code) place ≡ option_map (λ (i : ℕ). suc i) (index_at code (place - length (spelling insn)))
index_at-after insn code place past =
    rw (starts_not place (length (spelling insn)) (omega arith), is_past place (length (spelling insn)) past) refl

-- the instruction at a place, from its index
next_index : (insn : Insn) (code : List Insn) (o : Option ℕ)
    → option_and_then (slice_get code) o ≡ option_and_then (slice_get (insn ∷ code)) (option_map (λ (i : ℕ). suc i) o)
next_index insn code None = refl
next_index insn code (Some index) = refl

pub instruction_at-index : (code : List Insn) (place : ℕ) → instruction_at code place ≡ option_and_then (slice_get code)
    (index_at code place)
instruction_at-index [] place = refl
instruction_at-index (insn ∷ code) zero = refl
instruction_at-index (insn ∷ code) (suc place) = elim (cases_lt (suc place) (length (spelling insn))) as
    (λ _. instruction_at (insn ∷ code) (suc place) ≡ option_and_then (slice_get (insn ∷ code)) (index_at (insn ∷ code) (suc place))) [
      | inl below ↦
          instruction_at-inside insn code (suc place) (omega arith) below
          ∙ ap (option_and_then (slice_get (insn ∷ code))) (sym (index_at-inside insn code (suc place) (omega arith) below))
      | inr past ↦
          instruction_at-after insn code (suc place) past ∙ instruction_at-index code (suc place - length (spelling insn))
          ∙ next_index insn code (index_at code (suc place - length (spelling insn)))
          ∙ ap (option_and_then (slice_get (insn ∷ code))) (sym (index_at-after insn code (suc place) past))
    ]

-- an index that is found is an index of the code
below_one_more : (o : Option ℕ) (n : ℕ) → IfSome o (λ i. i < n) → IfSome (option_map (λ (i : ℕ). suc i) o) (λ i. i < suc n)
below_one_more None n h = tt
below_one_more (Some i) n h = omega arith

pub index_within : (code : List Insn) (place : ℕ) → IfSome (index_at code place) (λ index. index < length code)
index_within [] place = tt
index_within (insn ∷ code) zero = let h : 0 < length (insn ∷ code) = omega arith in h
index_within (insn ∷ code) (suc place) = elim (cases_lt (suc place) (length (spelling insn))) as
    (λ _. IfSome (index_at (insn ∷ code) (suc place)) (λ index. index < length (insn ∷ code))) [
      | inl below ↦ rw (index_at-inside insn code (suc place) (omega arith) below) tt
      | inr past ↦ rw (index_at-after insn code (suc place) past)
          (below_one_more (index_at code (suc place - length (spelling insn))) (length code)
          (index_within code (suc place - length (spelling insn))))
    ]

-- an instruction begins within the code
pub instruction_within : (code : List Insn) (place : ℕ) → IsSome (instruction_at code place) → place < word_count code
instruction_within [] place found = absurd (false≢true found)
instruction_within (insn ∷ code) place found = elim (cases_lt place (length (spelling insn))) as (λ _. place < word_count (insn ∷ code)) [
  | inl below ↦ let sum = word_count-cons insn code in omega arith
  | inr past ↦
      let there = instruction_within code (place - length (spelling insn))
      (sym (ap is_some (instruction_at-after insn code place past)) ∙ found) in
      let sum = word_count-cons insn code in omega arith
]

-- a list after another one
front : {X : Type 0} (xs ys : List X) (n : ℕ) → n < length xs → slice_get (xs ++ ys) n ≡ slice_get xs n
front [] ys n h = absurd (omega arith)
front (x ∷ xs) ys zero h = refl
front (x ∷ xs) ys (suc n) h = front xs ys n (omega arith)

back : {X : Type 0} (xs ys : List X) (n : ℕ) → length xs ≤ n → slice_get (xs ++ ys) n ≡ slice_get ys (n - length xs)
back [] ys n h = ap (slice_get ys) (let e : n ≡ n - 0 = omega arith in e)
back (x ∷ xs) ys zero h = absurd (omega arith)
back (x ∷ xs) ys (suc n) h = back xs ys n (omega arith) ∙ ap (slice_get ys)
    (let e : n - length xs ≡ suc n - suc (length xs) = omega arith in e)

abbrev nothing : Word → Option ℕ
nothing word = None

no_index : (words : List Word) (n : ℕ) → option_flatten (slice_get (map nothing words) n) ≡ None
no_index [] n = refl
no_index (word ∷ words) zero = refl
no_index (word ∷ words) (suc n) = no_index words n

one_further : (index : ℕ) (o : Option ℕ) → option_map (λ (i : ℕ). suc index + i) o ≡ option_map (λ (i : ℕ). index + i)
    (option_map (λ (i : ℕ). suc i) o)
one_further index None = refl
one_further index (Some i) = ap Some (let e : suc index + i ≡ index + suc i = omega arith in e)

-- the indexes that are kept for a place
pub indexes_from-at : (index : ℕ) (code : List Insn) (place : ℕ)
    → option_flatten (slice_get (indexes_from index code) place) ≡ option_map (λ (i : ℕ). index + i) (index_at code place)
indexes_from-at index [] place = refl
indexes_from-at index (insn ∷ code) zero = ap Some (let e : index ≡ index + 0 = omega arith in e)
indexes_from-at index (insn ∷ code) (suc place) = elim (cases_lt (suc place) (length (spelling insn))) as
    (λ _. option_flatten (slice_get (indexes_from index (insn ∷ code)) (suc place)) ≡ option_map (λ (i : ℕ). index + i)
    (index_at (insn ∷ code) (suc place))) [
      | inl below ↦
          let long = length-map (further_words insn) nothing in
          ap option_flatten (front (map nothing (further_words insn)) (indexes_from (suc index) code) place (omega arith))
          ∙ no_index (further_words insn) place
          ∙ ap (option_map (λ (i : ℕ). index + i)) (sym (index_at-inside insn code (suc place) (omega arith) below))
      | inr past ↦
          let long = length-map (further_words insn) nothing in
          let same : place - length (map nothing (further_words insn)) ≡ suc place - length (spelling insn) = omega arith in
          ap option_flatten (back (map nothing (further_words insn)) (indexes_from (suc index) code) place (omega arith)
          ∙ ap (slice_get (indexes_from (suc index) code)) same)
          ∙ indexes_from-at (suc index) code (suc place - length (spelling insn))
          ∙ one_further index (index_at code (suc place - length (spelling insn)))
          ∙ ap (option_map (λ (i : ℕ). index + i)) (sym (index_at-after insn code (suc place) past))
    ]

-- the instruction after others
pub instruction_at-middle : (before : List Insn) (insn : Insn) (after : List Insn)
    → instruction_at (before ++ insn ∷ after) (word_count before) ≡ Some insn
instruction_at-middle [] insn after = refl
instruction_at-middle (first ∷ before) insn after =
    let sum = word_count-cons first before in
    let past : length (spelling first) ≤ word_count (first ∷ before) = omega arith in
    let there : word_count (first ∷ before) - length (spelling first) ≡ word_count before = omega arith in
    instruction_at-after first (before ++ insn ∷ after) (word_count (first ∷ before)) past
    ∙ ap (instruction_at (before ++ insn ∷ after)) there ∙ instruction_at-middle before insn after

-- a nonempty code has at least one word
pub not_empty : (code : List Insn) → 1 ≤ length code → 1 ≤ word_count code
not_empty [] e = absurd (omega arith)
not_empty (insn ∷ code) e = let sum = word_count-cons insn code in omega arith

-- what a lookup finds
pub read_finds : {X : Type 0} (o : Option (Bor X)) (xs : List X) (i : ℕ) (At : Bor X → Type 0) → IfSome o (λ x. x.now ≡ get_or xs i x.now)
    → MatchOption o (length xs ≤ i) (λ x. (i < length xs) × At x) → option_copied o ≡ slice_get xs i
read_finds None xs i At item within = sym (slice_get_past xs i within)
read_finds (Some x) xs i At item within = sym (slice_get_read xs (length xs) i x.now refl within.0 item)

none_further : (o : Option ℕ) → option_map (λ (i : ℕ). 0 + i) o ≡ o
none_further None = refl
none_further (Some i) = ap Some (let e : 0 + i ≡ i = omega arith in e)

pub indexes_find : (indexes : List (Option ℕ)) (code : List Insn) (place : ℕ) → indexes ≡ indexes_from 0 code
    → option_flatten (slice_get indexes place) ≡ index_at code place
indexes_find indexes code place e =
    ap (λ (xs : List (Option ℕ)). option_flatten (slice_get xs place)) e ∙ indexes_from-at 0 code place ∙ none_further (index_at code place)

-- the place that is kept for an index
pub place_of_index : (places : List ℕ) (built code : List Insn) (index default : ℕ) → places ≡ places_from 0 built → built ≡ code
    → index < length code → get_or places index default ≡ place_of code index
place_of_index places built code index default are same within =
    ap (λ (ps : List ℕ). get_or ps index default) (are ∙ ap (places_from 0) same) ∙ places_from-at 0 code index default within
    ∙ (let e : 0 + place_of code index ≡ place_of code index = omega arith in e)

pub places_enough : (places : List ℕ) (built code : List Insn) (index : ℕ) → places ≡ places_from 0 built → built ≡ code → index < length code
    → index < length places
places_enough places built code index are same within =
    let counted = ap length (are ∙ ap (places_from 0) same) ∙ length-places_from 0 code in omega arith

pub found_at : (code : List Insn) (place index : ℕ) (insn : Insn) → Some index ≡ index_at code place → index < length code
    → insn ≡ get_or code index insn → Some insn ≡ instruction_at code place
found_at code place index insn e within is =
    sym (slice_get_read code (length code) index insn refl within is) ∙ ap (option_and_then (slice_get code)) e
    ∙ sym (instruction_at-index code place)

pub nothing_at : (code : List Insn) (place : ℕ) → None ≡ index_at code place → None ≡ instruction_at code place
nothing_at code place e = ap (option_and_then (slice_get code)) e ∙ sym (instruction_at-index code place)

-- the three lists with one more instruction
pub places_grow : (places places' : List ℕ) (code : List Insn) (place : ℕ) (insn : Insn) → places ≡ places_from 0 code
    → place ≡ word_count code → places' ≡ places ++ place ∷ [] → places' ≡ places_from 0 (code ++ insn ∷ [])
places_grow places places' code place insn are here grown =
    grown ∙ ap (λ (ps : List ℕ). ps ++ place ∷ []) are ∙ ap (λ (p : ℕ). places_from 0 code ++ p ∷ [])
    (let e : place ≡ 0 + word_count code = omega arith in e)
    ∙ sym (places_from-more 0 code insn)

pub indexes_grow : (indexes indexes' more : List (Option ℕ)) (code : List Insn) (insn : Insn) → indexes ≡ indexes_from 0 code
    → more ≡ indexes_in (length code) (spelling insn) → indexes' ≡ indexes ++ more → indexes' ≡ indexes_from 0 (code ++ insn ∷ [])
indexes_grow indexes indexes' more code insn are here grown =
    grown ∙ ap (λ (xs : List (Option ℕ)). xs ++ more) are ∙ ap (λ (xs : List (Option ℕ)). indexes_from 0 code ++ xs) here
    ∙ ap (λ (i : ℕ). indexes_from 0 code ++ indexes_in i (spelling insn)) (let e : length code ≡ 0 + length code = omega arith in e)
    ∙ sym (indexes_from-more 0 code insn)

-- a list that is unchanged and then grows
abbrev pub Grows : {X : Type 0} → List X → List X → List X → List X → Type 0
Grows old built more new = (built ≡ old) × (new ≡ built ++ more)

pub grown : {X : Type 0} {old built new : List X} (more : List X) → Grows old built more new → new ≡ old ++ more
grown more (stayed, put) = put ∙ ap (λ xs. xs ++ more) stayed

-- what is kept in addition to a code
abbrev pub AreBeside : List Insn → List ℕ → List (Option ℕ) → Type 0
AreBeside code places indexes = (places ≡ places_from 0 code) × (indexes ≡ indexes_from 0 code) × (word_count code ≤ MAX_WORDS)

-- a code and what is kept in addition to it
pub record KeptParts : Type 0 where
  pub code : List Insn
  pub places : List ℕ
  pub indexes : List (Option ℕ)

-- each list grew by an instruction's part
pub record GrowBy (old : KeptParts) (insn : Insn) (new : KeptParts) : Type 0 where
  pub code : new.code ≡ old.code ++ insn ∷ []
  pub places : new.places ≡ old.places ++ word_count old.code ∷ []
  pub indexes : new.indexes ≡ old.indexes ++ indexes_in (length old.code) (spelling insn)

pub all_grow : {old new : KeptParts} (insn : Insn) → AreBeside old.code old.places old.indexes → GrowBy old insn new
    → word_count old.code + length (spelling insn) ≤ MAX_WORDS → AreBeside new.code new.places new.indexes
all_grow {old} {new} insn are grow fits =
    let sum = word_count-append old.code (insn ∷ []) in
    let one = word_count-one insn in
    let whole : word_count (old.code ++ insn ∷ []) ≤ MAX_WORDS = omega arith in (
      places_grow old.places new.places old.code (word_count old.code) insn are.0 refl grow.places ∙ ap (places_from 0) (sym grow.code),
      indexes_grow old.indexes new.indexes (indexes_in (length old.code) (spelling insn)) old.code insn are.1 refl grow.indexes
          ∙ ap (indexes_from 0) (sym grow.code),
      subst (λ (c : List Insn). word_count c ≤ MAX_WORDS) (sym grow.code) whole,
    )
