-- Patterns as texts see them, by the field that a text is in; and patterns cut into pieces.
use Rattle.std.proofs.Common.{◌≡◌, ℕ, suc, ◌+◌, ◌≤◌, ◌==◌, Bool, true, false, not, ◌&&◌, ◌||◌, List, [], ◌∷◌, ◌++◌, length}
use Rattle.std.proofs.Common.{if◌then◌else◌, refl, sym, ap, ◌∙◌, arith}
use Rattle.std.specs.List.{list_any}
use Rattle.std.proofs.lemmas.Bool.{and_parts, false≢true}
use Rattle.tl_fields.specs.Number.{is_blank as are_blank}
use Rattle.cql2.specs.Folding.{is_alike}
use Rattle.cql2.specs.Pattern.{are_bytes, is_byte, is_like, rests_of}
use Rattle.cql2.specs.declared.pattern.PatternPart.{PatternPart}
use Rattle.cql2.specs.declared.pattern.PatternPart.TheVariants.{Exactly, Alike, One, Many}
use Rattle.cql2_code.specs.Pieces.{following_many, least_length, pieces_of}
use Rattle.cql2_code.proofs.TrimLemmas.{trimmed, trimmed_blank}

-- Parts

-- a part is not `%`
abbrev pub is_single : PatternPart → Bool
is_single (Exactly required) = true
is_single (Alike folding required) = true
is_single One = true
is_single Many = false

-- a part takes a byte; `%` counts as `_` here
abbrev pub takes : PatternPart → ℕ → Bool
takes (Exactly required) byte = byte == required
takes (Alike folding required) byte = is_alike folding byte required
takes One byte = true
takes Many byte = true

pub like_part : (part : PatternPart) (pattern : List PatternPart) (byte : ℕ) (text : List ℕ) → is_single part ≡ true
    → is_like (part ∷ pattern) (byte ∷ text) ≡ (takes part byte && is_like pattern text)
like_part (Exactly required) pattern byte text single = refl
like_part (Alike folding required) pattern byte text single = refl
like_part One pattern byte text single = refl
like_part Many pattern byte text single = absurd (false≢true single)

pub like_none : (part : PatternPart) (pattern : List PatternPart) → is_single part ≡ true → is_like (part ∷ pattern) [] ≡ false
like_none (Exactly required) pattern single = refl
like_none (Alike folding required) pattern single = refl
like_none One pattern single = refl
like_none Many pattern single = absurd (false≢true single)

-- Fields: a pattern matches the text in a field

abbrev pub like : List PatternPart → List ℕ → Bool
like pattern field = is_like pattern (trimmed field)

or_false : (a : Bool) → (a || false) ≡ a
or_false true = refl
or_false false = refl

or_self : (a : Bool) → (a || false) ≡ (a || (a || false))
or_self true = refl
or_self false = refl

pub like_part_field : (part : PatternPart) (pattern : List PatternPart) (byte : ℕ) (field : List ℕ) → is_single part ≡ true
    → like (part ∷ pattern) (byte ∷ field) ≡ (not (are_blank (byte ∷ field)) && (takes part byte && like pattern field))
like_part_field part pattern byte field single = by_blank (are_blank (byte ∷ field))
  where
    by_blank : (blank : Bool) → is_like (part ∷ pattern) (if blank then [] else byte ∷ trimmed field)
        ≡ (not blank && (takes part byte && is_like pattern (trimmed field)))
    by_blank true = like_none part pattern single
    by_blank false = like_part part pattern byte (trimmed field) single

pub like_many_none : (pattern : List PatternPart) → like (Many ∷ pattern) [] ≡ like pattern []
like_many_none pattern = or_false (is_like pattern [])

pub like_many_field : (pattern : List PatternPart) (byte : ℕ) (field : List ℕ)
    → like (Many ∷ pattern) (byte ∷ field) ≡ (like pattern (byte ∷ field) || like (Many ∷ pattern) field)
like_many_field pattern byte field = by_blank (are_blank (byte ∷ field)) refl
  where
    by_blank : (blank : Bool) → are_blank (byte ∷ field) ≡ blank
        → is_like (Many ∷ pattern) (if blank then [] else byte ∷ trimmed field)
        ≡ (is_like pattern (if blank then [] else byte ∷ trimmed field) || is_like (Many ∷ pattern) (trimmed field))
    by_blank true is =
        let rest : trimmed field ≡ [] = trimmed_blank field (and_parts (byte == 32) (are_blank field) is).1 in
        or_self (is_like pattern []) ∙ ap (λ (text : List ℕ). is_like pattern [] || is_like (Many ∷ pattern) text) (sym rest)
    by_blank false is = refl

-- Pieces

-- a piece whose parts each take one byte
pub record IsSingle (part : PatternPart) : Type 0 where
  pub single : is_single part ≡ true
  pub is_byte : is_byte part ≡ true

abbrev pub IsPiece : List PatternPart → Type 0
IsPiece [] = Unit {0}
IsPiece (part ∷ piece) = IsSingle part × IsPiece piece

pub record IsFilled (piece : List PatternPart) : Type 0 where
  pub are : IsPiece piece
  pub some : 1 ≤ length piece

abbrev pub ArePieces : List (List PatternPart) → Type 0
ArePieces [] = Unit {0}
ArePieces (piece ∷ pieces) = IsFilled piece × ArePieces pieces

pub piece_bytes : (piece : List PatternPart) → IsPiece piece → are_bytes piece ≡ true
piece_bytes [] are = refl
piece_bytes (part ∷ piece) are = ap (λ (first : Bool). first && are_bytes piece) are.0.is_byte ∙ piece_bytes piece are.1

-- the bytes that pieces take
abbrev pub lengths : List (List PatternPart) → ℕ
lengths [] = 0
lengths (piece ∷ pieces) = length piece + lengths pieces

-- the pattern after its first piece
abbrev pub respelled : List (List PatternPart) → Bool → List PatternPart
respelled [] true = Many ∷ []
respelled [] false = []
respelled (piece ∷ pieces) is_open = Many ∷ (piece ++ respelled pieces is_open)

pub record Cut (pattern : List PatternPart) (first : List PatternPart) (others : List (List PatternPart)) (is_open : Bool) : Type 0 where
  pub first_is : IsPiece first
  pub others_are : ArePieces others
  pub takes : least_length pattern ≡ length first + lengths others
  pub matches : (text : List ℕ) → is_like pattern text ≡ is_like (first ++ respelled others is_open) text

like_many_twice : (pattern : List PatternPart) (text : List ℕ) → is_like (Many ∷ Many ∷ pattern) text ≡ is_like (Many ∷ pattern) text
like_many_twice pattern [] = or_false (is_like (Many ∷ pattern) [])
like_many_twice pattern (byte ∷ text) =
    ap (λ (rest : Bool). is_like (Many ∷ pattern) (byte ∷ text) || rest) (like_many_twice pattern text)
    ∙ twice (is_like pattern (byte ∷ text)) (is_like (Many ∷ pattern) text)
  where
    twice : (a b : Bool) → (a || b || b) ≡ (a || b)
    twice true b = refl
    twice false true = refl
    twice false false = refl

any_same : (f g : List ℕ → Bool) (texts : List (List ℕ)) → ((text : List ℕ) → f text ≡ g text) → list_any f texts ≡ list_any g texts
any_same f g [] same = refl
any_same f g (text ∷ texts) same =
    ap (λ (first : Bool). first || list_any f texts) (same text) ∙ ap (λ (rest : Bool). g text || rest) (any_same f g texts same)

-- `%` before a pattern in pieces
cut_many : (pattern first : List PatternPart) (others : List (List PatternPart)) (is_open : Bool) → Cut pattern first others is_open
    → (let cut = following_many first others is_open in Cut (Many ∷ pattern) cut.first cut.others cut.is_open)
cut_many pattern [] [] true cut = record {
  first_is = tt;
  others_are = tt;
  takes = cut.takes;
  matches = λ text.
      any_same (λ rest. is_like pattern rest) (λ rest. is_like (Many ∷ []) rest) (rests_of text) cut.matches ∙ like_many_twice [] text;
}
cut_many pattern [] [] false cut = record {
  first_is = tt;
  others_are = tt;
  takes = cut.takes;
  matches = λ text. any_same (λ rest. is_like pattern rest) (λ rest. is_like [] rest) (rests_of text) cut.matches;
}
cut_many pattern [] (piece ∷ others) is_open cut = record {
  first_is = tt;
  others_are = cut.others_are;
  takes = cut.takes;
  matches = λ text.
      any_same (λ rest. is_like pattern rest) (λ rest. is_like (respelled (piece ∷ others) is_open) rest) (rests_of text) cut.matches
      ∙ like_many_twice (piece ++ respelled others is_open) text;
}
cut_many pattern (part ∷ piece) others is_open cut = record {
  first_is = tt;
  others_are = (record { are = cut.first_is; some = omega arith }, cut.others_are);
  takes = let sum = cut.takes in omega arith;
  matches = λ text.
      any_same (λ rest. is_like pattern rest) (λ rest. is_like (part ∷ piece ++ respelled others is_open) rest) (rests_of text) cut.matches;
}

-- another part before it
cut_part : (part : PatternPart) (pattern first : List PatternPart) (others : List (List PatternPart)) (is_open : Bool) → IsSingle part
    → least_length (part ∷ pattern) ≡ suc (least_length pattern)
    → Cut pattern first others is_open → Cut (part ∷ pattern) (part ∷ first) others is_open
cut_part part pattern first others is_open is more cut = record {
  first_is = (is, cut.first_is);
  others_are = cut.others_are;
  takes = let sum = cut.takes in omega arith;
  matches = like_more;
}
  where
    like_more : (text : List ℕ) → is_like (part ∷ pattern) text ≡ is_like (part ∷ (first ++ respelled others is_open)) text
    like_more [] = like_none part pattern is.single ∙ sym (like_none part (first ++ respelled others is_open) is.single)
    like_more (byte ∷ text) =
        like_part part pattern byte text is.single ∙ ap (λ (rest : Bool). takes part byte && rest) (cut.matches text)
        ∙ sym (like_part part (first ++ respelled others is_open) byte text is.single)

-- a pattern of bytes is cut into pieces
pub cut_pieces : (pattern : List PatternPart) → are_bytes pattern ≡ true
    → (let pieces = pieces_of pattern in Cut pattern pieces.first pieces.others pieces.is_open)
cut_pieces [] are = record { first_is = tt; others_are = tt; takes = refl; matches = λ text. refl }
cut_pieces (Many ∷ pattern) are =
    let pieces = pieces_of pattern in cut_many pattern pieces.first pieces.others pieces.is_open (cut_pieces pattern are)
cut_pieces (Exactly required ∷ pattern) are =
    let parts = and_parts (is_byte (Exactly required)) (are_bytes pattern) are in
    let pieces = pieces_of pattern in
    cut_part (Exactly required) pattern pieces.first pieces.others pieces.is_open (record { single = refl; is_byte = parts.0 }) refl
    (cut_pieces pattern parts.1)
cut_pieces (Alike folding required ∷ pattern) are =
    let parts = and_parts (is_byte (Alike folding required)) (are_bytes pattern) are in
    let pieces = pieces_of pattern in
    cut_part (Alike folding required) pattern pieces.first pieces.others pieces.is_open (record { single = refl; is_byte = parts.0 }) refl
    (cut_pieces pattern parts.1)
cut_pieces (One ∷ pattern) are =
    let pieces = pieces_of pattern in
    cut_part One pattern pieces.first pieces.others pieces.is_open (record { single = refl; is_byte = refl }) refl (cut_pieces pattern are)
