-- Laws about the texts that a file is split into.
use Rattle.std.proofs.Common.{◌≡◌, ◌≢◌, ◌∙◌, ◌⊎◌, ℕ, zero, suc, Bool, true, false, not, ◌&&◌, List, [], ◌∷◌, ◌++◌}
use Rattle.std.proofs.Common.{Some, length, take, refl, ap, sym, inl, inr, arith}
use Rattle.std.specs.Prelude.{slice_get, ◌+◌, ◌%◌, ◌==◌, if◌then◌else◌}
use Rattle.std.specs.List.{concat, fold}
use Rattle.std.proofs.lemmas.List.Sums.{sum_by-cons}
use Rattle.std.proofs.lemmas.Bool.{and_parts, cases_Bool}
use Rattle.std.proofs.lemmas.Bool.Decides.{nat_tests}
use Rattle.addresses.specs.RecordText.{IsFirstText, inside_after, is_line_feed, is_open, is_quotation_mark, joined}
use Rattle.addresses.specs.RecordText.{quotation_marks, record_texts, texts_from, with_byte}

concat-joined : (byte : ℕ) (texts : List (List ℕ)) → concat (joined byte texts) ≡ byte ∷ concat texts
concat-joined byte [] = refl
concat-joined byte (text ∷ texts) = refl

concat-with_byte : (byte : ℕ) (inside : Bool) (texts : List (List ℕ)) → concat (with_byte byte inside texts) ≡ byte ∷ concat texts
concat-with_byte byte inside texts = elim (cases_Bool (is_line_feed byte && not inside)) [
  | inl ends ↦ rw ends refl
  | inr continues ↦ rw continues (concat-joined byte texts)
]

concat-texts : (inside : Bool) (file : List ℕ) → concat (texts_from inside file) ≡ file
unfolding texts_from
concat-texts inside [] = refl
concat-texts inside (byte ∷ rest) =
    let now = inside_after inside byte in
    concat-with_byte byte now (texts_from now rest) ∙ ap (λ bytes. byte ∷ bytes) (concat-texts now rest)

pub whole_file_lem : (file : List ℕ) → concat (record_texts file) ≡ file
whole_file_lem file = concat-texts false file

-- like EndsAt, for bytes that may begin inside quotation marks
abbrev EndsFrom : Bool → List ℕ → ℕ → Type 0
EndsFrom inside text at = (slice_get text at ≡ Some 10) × (fold inside_after inside (take at text) ≡ false)

record IsFirstFrom (inside : Bool) (file text rest : List ℕ) : Type 0 where
  split : file ≡ text ++ rest
  first : (at : ℕ) → EndsFrom inside text at → suc at ≡ length text
  ended : ((at : ℕ) × EndsFrom inside text at) ⊎ (rest ≡ [])

-- a line feed leaves the state of the quotation marks unchanged
feed-unchanged : (byte : ℕ) (inside : Bool) → byte ≡ 10 → inside_after inside byte ≡ inside
feed-unchanged byte inside feed = rw feed refl

ends-is : (byte : ℕ) (inside : Bool) → byte ≡ 10 → inside ≡ false → (is_line_feed byte && not (inside_after inside byte)) ≡ true
ends-is byte inside feed outside = rw (feed, outside) refl

not-true : (b : Bool) → not b ≡ true → b ≡ false
not-true true e = sym e
not-true false e = refl

is-end : (byte : ℕ) (inside : Bool) → (is_line_feed byte && not (inside_after inside byte)) ≡ true → (byte ≡ 10) × (inside ≡ false)
is-end byte inside ends =
    let parts = and_parts (is_line_feed byte) (not (inside_after inside byte)) ends in
    let test : is_line_feed byte ≡ true = parts.0 in
    let feed : byte ≡ 10 = grind (arith, nat_tests) in
    (feed, sym (feed-unchanged byte inside feed) ∙ not-true (inside_after inside byte) parts.1)

joined-some : (byte : ℕ) (texts : List (List ℕ)) → joined byte texts ≡ [] → ⊥
joined-some byte [] none = cc none
joined-some byte (text ∷ texts) none = cc none

texts-some : (inside : Bool) (file : List ℕ) → texts_from inside file ≡ [] → file ≡ []
unfolding texts_from
texts-some inside [] none = refl
texts-some inside (byte ∷ rest) none = elim (cases_Bool (is_line_feed byte && not (inside_after inside byte))) [
  | inl ends ↦ cc (rw ends at none)
  | inr continues ↦ absurd (joined-some byte (texts_from (inside_after inside byte) rest) (rw continues at none))
]

one-byte : (byte at : ℕ) → slice_get (byte ∷ []) at ≡ Some 10 → suc at ≡ 1
one-byte byte zero is = refl
one-byte byte (suc at) is = cc is

-- a record's text of one byte
ends-here : (inside : Bool) (byte : ℕ) (rest : List ℕ) → (is_line_feed byte && not (inside_after inside byte)) ≡ true
    → IsFirstFrom inside (byte ∷ rest) (byte ∷ []) rest
ends-here inside byte rest ends =
    let is = is-end byte inside ends in
    record { split = refl; first = λ at end. one-byte byte at end.0; ended = inl (0, (ap Some is.0, is.1)) }

is-last : (inside : Bool) (byte : ℕ) (rest : List ℕ) → rest ≡ [] → IsFirstFrom inside (byte ∷ rest) (byte ∷ []) []
is-last inside byte rest none = record {
  split = ap (λ bytes. byte ∷ bytes) none;
  first = λ at end. one-byte byte at end.0;
  ended = inr refl;
}

-- a record's text that continues after a byte
continues-text : (inside : Bool) (byte : ℕ) (file text rest : List ℕ) → (is_line_feed byte && not (inside_after inside byte)) ≡ false
    → IsFirstFrom (inside_after inside byte) file text rest → IsFirstFrom inside (byte ∷ file) (byte ∷ text) rest
continues-text inside byte file text rest more later = record {
  split = ap (λ bytes. byte ∷ bytes) later.split;
  first = first;
  ended = elim later.ended [ inl end ↦ inl (suc end.0, end.1) | inr none ↦ inr none ];
}
  where
    first : (at : ℕ) → EndsFrom inside (byte ∷ text) at → suc at ≡ suc (length text)
    first zero end = cc (more, ends-is byte inside (cc end.0) end.1)
    first (suc at) end = ap suc (later.first at end)

abbrev Cut : Bool → List ℕ → List ℕ → List (List ℕ) → Type 0
Cut inside file text texts = (rest : List ℕ) × IsFirstFrom inside file text rest × (texts ≡ texts_from false rest)

first-from : (inside : Bool) (file text : List ℕ) (texts : List (List ℕ)) → texts_from inside file ≡ text ∷ texts
    → Cut inside file text texts
unfolding texts_from
first-from inside [] text texts is = cc is
first-from inside (byte ∷ file) text texts is = elim (cases_Bool (is_line_feed byte && not now)) [
  | inl ends ↦
      let cut = rw ends at is in
      let one : text ≡ byte ∷ [] = cc cut in
      let others : texts ≡ texts_from now file = cc cut in
      let outside : now ≡ false = feed-unchanged byte inside (is-end byte inside ends).0 ∙ (is-end byte inside ends).1 in
      (file, rw one (ends-here inside byte file ends), others ∙ ap (λ (after : Bool). texts_from after file) outside)
  | inr more ↦ on more (texts_from now file) refl (rw more at is) (first-from now file)
]
  where
    now : Bool
    now = inside_after inside byte

    on : (is_line_feed byte && not (inside_after inside byte)) ≡ false → (later : List (List ℕ))
        → texts_from (inside_after inside byte) file ≡ later → joined byte later ≡ text ∷ texts
        → ((t : List ℕ) (ts : List (List ℕ)) → texts_from (inside_after inside byte) file ≡ t ∷ ts
        → Cut (inside_after inside byte) file t ts)
        → Cut inside (byte ∷ file) text texts
    on more [] none cut rec =
        let one : text ≡ byte ∷ [] = cc cut in
        let others : texts ≡ [] = cc cut in
        ([], rw one (is-last inside byte file (texts-some (inside_after inside byte) file none)), others)
    on more (t ∷ ts) some cut rec =
        let one : text ≡ byte ∷ t = cc cut in
        let others : texts ≡ ts = cc cut in
        let (rest, first, later) = rec t ts some in
        (rest, rw one (continues-text inside byte file t rest more first), others ∙ later)

pub first_text_lem : (file text : List ℕ) (texts : List (List ℕ)) → record_texts file ≡ text ∷ texts
    → (rest : List ℕ) × IsFirstText file text rest × (texts ≡ record_texts rest)
first_text_lem file text texts is =
    let (rest, first, later) = first-from false file text texts is in
    (rest, record { split = first.split; first = first.first; ended = first.ended }, later)

odd-next : (n : ℕ) → (n % 2 == 1) ≡ true → ((1 + n) % 2 == 1) ≡ false
odd-next n odd =
    let one : n % 2 ≡ 1 = grind (arith, nat_tests) in
    let zero : (1 + n) % 2 ≡ 0 = omega (arith, one) in
    rw zero refl

even-next : (n : ℕ) → (n % 2 == 1) ≡ false → ((1 + n) % 2 == 1) ≡ true
even-next n even =
    let other : n % 2 ≢ 1 = grind (arith, nat_tests) in
    let one : (1 + n) % 2 ≡ 1 = omega (arith, other) in
    rw one refl

not-not : (b : Bool) → not (not b) ≡ b
not-not true = refl
not-not false = refl

-- one more mark inverts the state
turned : (n : ℕ) (inside : Bool) → (if n % 2 == 1 then not (not inside) else not inside) ≡ (if (1 + n) % 2 == 1 then not inside else inside)
turned n inside = elim (cases_Bool (n % 2 == 1)) [
  | inl odd ↦ rw (odd, odd-next n odd) (not-not inside)
  | inr even ↦ rw (even, even-next n even) refl
]

-- after an even number of marks the state is unchanged; after an odd number it is inverted
parity : (inside : Bool) (bytes : List ℕ) → fold inside_after inside bytes ≡ (if quotation_marks bytes % 2 == 1 then not inside else inside)
parity inside [] = refl
parity inside (byte ∷ bytes) =
    let q = quotation_marks bytes in
    let count : quotation_marks (byte ∷ bytes) ≡ (if is_quotation_mark byte then 1 else 0) + q =
    sum_by-cons (λ x. if is_quotation_mark x then 1 else 0) byte bytes in
    let none : 0 + q ≡ q = omega arith in
    elim (cases_Bool (is_quotation_mark byte)) [
      | inl mark ↦ rw (count, mark) (parity (not inside) bytes ∙ turned q inside)
      | inr other ↦ rw (count, other, none) (parity inside bytes)
    ]

pub open_if_odd_lem : (bytes : List ℕ) → is_open bytes ≡ (quotation_marks bytes % 2 == 1)
open_if_odd_lem bytes = elim (cases_Bool (quotation_marks bytes % 2 == 1)) [
  | inl odd ↦ rw odd at (parity false bytes) ∙ sym odd
  | inr even ↦ rw even at (parity false bytes) ∙ sym even
]
