-- A search for the pieces of a pattern, each at the leftmost place after the previous one, finds them exactly if the pattern matches.
use Rattle.std.proofs.Common.{◌≡◌, ℕ, zero, suc, ◌<◌, ◌≤◌, Bool, true, false, not, ◌&&◌, ◌||◌, List, [], ◌∷◌, ◌++◌, length, drop}
use Rattle.std.proofs.Common.{if◌then◌else◌, refl, sym, ap, ◌∙◌, arith}
use Rattle.std.proofs.lemmas.Bool.{and_parts, false≢true}
use Rattle.tl_fields.specs.Number.{is_blank as are_blank}
use Rattle.cql2.specs.declared.pattern.PatternPart.{PatternPart}
use Rattle.cql2.specs.declared.pattern.PatternPart.TheVariants.{Exactly, Alike, One, Many}
use Rattle.cql2.specs.Pattern.{is_like}
use Rattle.cql2_code.specs.Pieces.{least_length}
use Rattle.cql2_code.proofs.PieceLemmas.{IsPiece, like, like_many_field, like_many_none, like_part_field, is_single, takes}
use Rattle.cql2_code.proofs.TrimLemmas.{trimmed_blank}

-- a field begins with the bytes that a piece wants
abbrev pub wants : List PatternPart → List ℕ → Bool
wants [] field = true
wants (part ∷ piece) [] = false
wants (part ∷ piece) (byte ∷ field) = takes part byte && wants piece field

-- the text in a field begins with them
abbrev pub begins_so : List PatternPart → List ℕ → Bool
begins_so [] field = true
begins_so (part ∷ piece) [] = false
begins_so (part ∷ piece) (byte ∷ field) = not (are_blank (byte ∷ field)) && (takes part byte && begins_so piece field)

pub begins_wants : (piece : List PatternPart) (field : List ℕ) → begins_so piece field ≡ true → wants piece field ≡ true
begins_wants [] field so = refl
begins_wants (part ∷ piece) [] so = absurd (false≢true so)
begins_wants (part ∷ piece) (byte ∷ field) so =
    let rest = and_parts (takes part byte) (begins_so piece field) (and_parts (not (are_blank (byte ∷ field))) _ so).1 in
    ap (λ (first : Bool). first && wants piece field) rest.0 ∙ begins_wants piece field rest.1

pub blank_drop : (count : ℕ) (field : List ℕ) → are_blank field ≡ true → are_blank (drop count field) ≡ true
blank_drop zero field blank = blank
blank_drop (suc count) [] blank = refl
blank_drop (suc count) (byte ∷ field) blank = blank_drop count field (and_parts _ (are_blank field) blank).1

not_blank : (blank : Bool) → (blank ≡ true → ⊥) → not blank ≡ true
not_blank true never = absurd (never refl)
not_blank false never = refl

-- if the field isn't blank after the bytes, these are the text's
pub wants_begins : (piece : List PatternPart) (field : List ℕ) → wants piece field ≡ true
    → are_blank (drop (length piece) field) ≡ false → begins_so piece field ≡ true
wants_begins [] field required filled = refl
wants_begins (part ∷ piece) [] required filled = absurd (false≢true required)
wants_begins (part ∷ piece) (byte ∷ field) required filled =
    let parts = and_parts (takes part byte) (wants piece field) required in
    let some = not_blank (are_blank (byte ∷ field)) (λ blank. false≢true (sym filled ∙ blank_drop (suc (length piece)) (byte ∷ field) blank)) in
    ap (λ (first : Bool). first && (takes part byte && begins_so piece field)) some
    ∙ ap (λ (first : Bool). first && begins_so piece field) parts.0 ∙ wants_begins piece field parts.1 filled

-- a piece, and the rest of a pattern
pub like_piece : (piece rest : List PatternPart) (field : List ℕ) → IsPiece piece
    → like (piece ++ Many ∷ rest) field ≡ (begins_so piece field && like (Many ∷ rest) (drop (length piece) field))
like_piece [] rest field are = refl
like_piece (part ∷ piece) rest [] are = none part are.0.single
  where
    none : (part : PatternPart) → is_single part ≡ true → is_like (part ∷ (piece ++ Many ∷ rest)) [] ≡ false
    none (Exactly required) single = refl
    none (Alike folding required) single = refl
    none One single = refl
    none Many single = absurd (false≢true single)
like_piece (part ∷ piece) rest (byte ∷ field) are =
    like_part_field part (piece ++ Many ∷ rest) byte field are.0.single
    ∙ ap (λ (more : Bool). not (are_blank (byte ∷ field)) && (takes part byte && more)) (like_piece piece rest field are.1)
    ∙ regroup (not (are_blank (byte ∷ field))) (takes part byte) (begins_so piece field) (like (Many ∷ rest) (drop (length piece) field))
  where
    regroup : (a b c d : Bool) → (a && (b && (c && d))) ≡ ((a && (b && c)) && d)
    regroup true true c d = refl
    regroup true false c d = refl
    regroup false b c d = refl

-- what follows a `%` matches all the more the earlier it may begin

or_true : (a : Bool) → (a || true) ≡ true
or_true true = refl
or_true false = refl

earlier_one : (rest : List PatternPart) (byte : ℕ) (field : List ℕ) → like (Many ∷ rest) field ≡ true → like (Many ∷ rest) (byte ∷ field) ≡ true
earlier_one rest byte field later =
    like_many_field rest byte field ∙ ap (λ (b : Bool). like rest (byte ∷ field) || b) later ∙ or_true (like rest (byte ∷ field))

drop_none : (count : ℕ) → drop {A = ℕ} count [] ≡ []
drop_none zero = refl
drop_none (suc count) = refl

earlier : (count : ℕ) (rest : List PatternPart) (byte : ℕ) (field : List ℕ) → like (Many ∷ rest) (drop count field) ≡ true
    → like (Many ∷ rest) (drop count (byte ∷ field)) ≡ true
earlier zero rest byte field later = earlier_one rest byte field later
earlier (suc count) rest byte [] later = ap (like (Many ∷ rest)) (drop_none count) ∙ later
earlier (suc count) rest byte (next ∷ field) later = earlier count rest next field later

or_cases : (a b : Bool) {C : Type 0} → (a || b) ≡ true → (a ≡ true → C) → (b ≡ true → C) → C
or_cases true b either first second = first refl
or_cases false b either first second = second either

-- what follows a piece that is found somewhere is found after the first place where the piece could be
found_following : (piece rest : List PatternPart) (field : List ℕ) → IsPiece piece → like (Many ∷ (piece ++ Many ∷ rest)) field ≡ true
    → like (Many ∷ rest) (drop (length piece) field) ≡ true
found_following piece rest [] are found =
    (and_parts (begins_so piece []) (like (Many ∷ rest) (drop (length piece) []))
    (sym (like_piece piece rest [] are) ∙ sym (like_many_none (piece ++ Many ∷ rest)) ∙ found)).1
found_following piece rest (byte ∷ field) are found =
    or_cases (like (piece ++ Many ∷ rest) (byte ∷ field)) (like (Many ∷ (piece ++ Many ∷ rest)) field)
    (sym (like_many_field (piece ++ Many ∷ rest) byte field) ∙ found)
    (λ here. (and_parts (begins_so piece (byte ∷ field)) (like (Many ∷ rest) (drop (length piece) (byte ∷ field)))
    (sym (like_piece piece rest (byte ∷ field) are) ∙ here)).1)
    (λ later. earlier (length piece) rest byte field (found_following piece rest field are later))

-- a pattern that doesn't match the empty text
pub some_text : (rest : List PatternPart) (field : List ℕ) → is_like rest [] ≡ false → like rest field ≡ true → are_blank field ≡ false
some_text rest field none found = by_blank (are_blank field) refl
  where
    by_blank : (blank : Bool) → are_blank field ≡ blank → blank ≡ false
    by_blank true is = absurd (false≢true (sym none ∙ sym (ap (is_like rest) (trimmed_blank field is)) ∙ found))
    by_blank false is = refl

-- A piece that isn't the last one: if it matches here, the search goes on after it, and otherwise the search for it goes on.
pub next_piece : (piece rest : List PatternPart) (byte : ℕ) (field : List ℕ) → IsPiece piece → is_like (Many ∷ rest) [] ≡ false
    → like (Many ∷ (piece ++ Many ∷ rest)) (byte ∷ field)
    ≡ (if wants piece (byte ∷ field) then like (Many ∷ rest) (drop (length piece) (byte ∷ field)) else like (Many ∷ (piece ++ Many ∷ rest)) field)
next_piece piece rest byte field are some =
    like_many_field (piece ++ Many ∷ rest) byte field
    ∙ ap (λ (here : Bool). here || like (Many ∷ (piece ++ Many ∷ rest)) field) (like_piece piece rest (byte ∷ field) are)
    ∙ by_cases (wants piece (byte ∷ field)) (begins_so piece (byte ∷ field)) (like (Many ∷ rest) (drop (length piece) (byte ∷ field)))
    (like (Many ∷ (piece ++ Many ∷ rest)) field) (begins_wants piece (byte ∷ field))
    (λ required more. wants_begins piece (byte ∷ field) required (some_text (Many ∷ rest) (drop (length piece) (byte ∷ field)) some more))
    (λ later. earlier (length piece) rest byte field (found_following piece rest field are later))
  where
    by_cases : (required so more later : Bool) → (so ≡ true → required ≡ true) → (required ≡ true → more ≡ true → so ≡ true)
        → (later ≡ true → more ≡ true) → (so && more || later) ≡ (if required then more else later)
    by_cases true true true later one two three = refl
    by_cases true false true later one two three = absurd (false≢true (two refl refl))
    by_cases true true false true one two three = absurd (false≢true (three refl))
    by_cases true false false true one two three = absurd (false≢true (three refl))
    by_cases true true false false one two three = refl
    by_cases true false false false one two three = refl
    by_cases false true more later one two three = absurd (false≢true (one refl))
    by_cases false false more later one two three = refl

-- the last piece
pub last_piece : (rest : List PatternPart) (byte : ℕ) (field : List ℕ)
    → like (Many ∷ rest) (byte ∷ field) ≡ (if like rest (byte ∷ field) then true else like (Many ∷ rest) field)
last_piece rest byte field = like_many_field rest byte field ∙ as_choice (like rest (byte ∷ field)) (like (Many ∷ rest) field)
  where
    as_choice : (a b : Bool) → (a || b) ≡ (if a then true else b)
    as_choice true b = refl
    as_choice false b = refl

-- Lengths

-- a pattern takes no more bytes than the field has
pub short_part : (part : PatternPart) (pattern : List PatternPart) (field : List ℕ)
    → ((field : List ℕ) → like pattern field ≡ true → least_length pattern ≤ length field) → is_single part ≡ true
    → like (part ∷ pattern) field ≡ true → suc (least_length pattern) ≤ length field
short_part part pattern [] short single found = absurd (false≢true (sym (none part single) ∙ found))
  where
    none : (part : PatternPart) → is_single part ≡ true → is_like (part ∷ pattern) [] ≡ false
    none (Exactly required) single = refl
    none (Alike folding required) single = refl
    none One single = refl
    none Many single = absurd (false≢true single)
short_part part pattern (byte ∷ field) short single found =
    let rest = and_parts (not (are_blank (byte ∷ field))) _ (sym (like_part_field part pattern byte field single) ∙ found) in
    let more = short field (and_parts (takes part byte) (like pattern field) rest.1).1 in
    omega arith

short_many : (pattern : List PatternPart) (field : List ℕ) → ((field : List ℕ) → like pattern field ≡ true → least_length pattern ≤ length field)
    → like (Many ∷ pattern) field ≡ true → least_length pattern ≤ length field
short_many pattern [] short found = short [] (sym (like_many_none pattern) ∙ found)
short_many pattern (byte ∷ field) short found =
    or_cases (like pattern (byte ∷ field)) (like (Many ∷ pattern) field) (sym (like_many_field pattern byte field) ∙ found)
    (λ here. short (byte ∷ field) here) (λ later. let more = short_many pattern field short later in omega arith)

pub like_short : (pattern : List PatternPart) (field : List ℕ) → like pattern field ≡ true → least_length pattern ≤ length field
like_short [] field found = omega arith
like_short (Many ∷ pattern) field found = short_many pattern field (like_short pattern) found
like_short (Exactly required ∷ pattern) field found = short_part (Exactly required) pattern field (like_short pattern) refl found
like_short (Alike folding required ∷ pattern) field found = short_part (Alike folding required) pattern field (like_short pattern) refl found
like_short (One ∷ pattern) field found = short_part One pattern field (like_short pattern) refl found

pub like_long : (pattern : List PatternPart) (field : List ℕ) → length field < least_length pattern → like pattern field ≡ false
like_long pattern field long = by_cases (like pattern field) refl
  where
    by_cases : (found : Bool) → like pattern field ≡ found → found ≡ false
    by_cases true is = let short = like_short pattern field is in absurd (omega arith)
    by_cases false is = refl
