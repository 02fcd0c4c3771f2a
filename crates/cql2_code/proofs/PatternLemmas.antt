-- The exact bytes of a piece of a pattern, and how it ends.
use Rattle.std.proofs.Common.{◌≡◌, ℕ, suc, ◌+◌, ◌-◌, ◌==◌, ◌<◌, ◌≤◌, Bool, not, true, false, List, [], ◌∷◌, ◌++◌, length, map, take, drop}
use Rattle.std.proofs.Common.{get_or, slice_get, Option, None, Some, refl, sym, ap, ◌∙◌, subst, arith, take-append-drop}
use Rattle.std.proofs.lemmas.Bool.{le-leb}
use Rattle.std.proofs.lemmas.List.{drop_more, length-map}
use Rattle.cql2.specs.declared.pattern.PatternPart.{PatternPart}
use Rattle.cql2.specs.declared.pattern.PatternPart.TheVariants.{Exactly, Alike, One, Many}
use Rattle.cql2_code.specs.Lowering.{both, ends_at, ends_filled, ends_so, exact_bytes, has_bytes, is_each_required, is_filled, is_piece}
use Rattle.cql2_code.specs.Lowering.{is_required}
use Rattle.cql2_code.specs.Question.{Joined}
use Rattle.cql2_code.specs.declared.field.Field.{Field}
use Rattle.cql2_code.proofs.RequiredLemmas.{Spells, spells}

-- one required byte, and more
pub is_each_required-more : (at : ℕ) (pattern : List PatternPart) (required : PatternPart) (rest : List PatternPart)
    → pattern ≡ required ∷ rest → 0 < length rest
    → is_each_required at pattern ≡ Joined true (is_required at required) (is_each_required (at + 1) rest)
is_each_required-more at pattern required [] is some = absurd (omega arith)
is_each_required-more at pattern required (next ∷ rest) is some = ap (is_each_required at) is

-- the last required byte, if there is one, is not a blank
abbrev pub is_last_filled : Option PatternPart → Bool
is_last_filled None = false
is_last_filled (Some required) = is_filled required

pub ends_filled-last : (pattern : List PatternPart) → ends_filled pattern ≡ is_last_filled (slice_get pattern (length pattern - 1))
ends_filled-last [] = refl
ends_filled-last (required ∷ []) = refl
ends_filled-last (required ∷ next ∷ pattern) =
    let place : suc (length (next ∷ pattern) - 1) ≡ length (required ∷ next ∷ pattern) - 1 = omega arith in
    ends_filled-last (next ∷ pattern) ∙ ap (λ (n : ℕ). is_last_filled (slice_get (required ∷ next ∷ pattern) n)) place

abbrev pub is_last_byte_filled : Option ℕ → Bool
is_last_byte_filled None = false
is_last_byte_filled (Some byte) = not (byte == 32)

pub ends_filled-last_byte : (bytes : List ℕ) → ends_filled (map Exactly bytes) ≡ is_last_byte_filled (slice_get bytes (length bytes - 1))
ends_filled-last_byte [] = refl
ends_filled-last_byte (byte ∷ []) = refl
ends_filled-last_byte (byte ∷ next ∷ bytes) =
    let place : suc (length (next ∷ bytes) - 1) ≡ length (byte ∷ next ∷ bytes) - 1 = omega arith in
    ends_filled-last_byte (next ∷ bytes) ∙ ap (λ (n : ℕ). is_last_byte_filled (slice_get (byte ∷ next ∷ bytes) n)) place

-- the exact bytes of a pattern made of exact bytes
pub exact_bytes-exactly : (bytes : List ℕ) → exact_bytes (map Exactly bytes) ≡ Some bytes
exact_bytes-exactly [] = refl
exact_bytes-exactly (byte ∷ bytes) = rw (exact_bytes-exactly bytes) refl

-- a pattern has no exact bytes if its rest after some exact bytes has none
exact_bytes-none : (front : List ℕ) (rest : List PatternPart) → exact_bytes rest ≡ None → exact_bytes (map Exactly front ++ rest) ≡ None
exact_bytes-none [] rest none = none
exact_bytes-none (byte ∷ front) rest none = rw (exact_bytes-none front rest none) refl

not_exact : (required : PatternPart) (rest : List PatternPart) → ((byte : ℕ) → required ≡ Exactly byte → ⊥) → exact_bytes (required ∷ rest) ≡ None
not_exact (Exactly byte) rest other = absurd (other byte refl)
not_exact (Alike folding required) rest other = refl
not_exact One rest other = refl
not_exact Many rest other = refl

pub exact_bytes-other : (pattern : List PatternPart) (bytes : List ℕ) (at : ℕ) → at < length pattern → take at pattern ≡ map Exactly bytes
    → ((byte : ℕ) → get_or pattern at (Exactly 0) ≡ Exactly byte → ⊥) → exact_bytes pattern ≡ None
exact_bytes-other pattern bytes at within front other =
    let rest = drop_more pattern at (Exactly 0) within in
    let parts : pattern ≡ map Exactly bytes ++ (get_or pattern at (Exactly 0) ∷ drop (at + 1) pattern) =
    sym (take-append-drop at pattern) ∙ ap (λ (some : List PatternPart). some ++ drop at pattern) front
    ∙ ap (λ (some : List PatternPart). map Exactly bytes ++ some) rest in
    let none = not_exact (get_or pattern at (Exactly 0)) (drop (at + 1) pattern) other in
    ap exact_bytes parts ∙ exact_bytes-none bytes (get_or pattern at (Exactly 0) ∷ drop (at + 1) pattern) none

-- a pattern with exact bytes wants exactly these
pub spelled : (pattern : List PatternPart) (bytes : List ℕ) → exact_bytes pattern ≡ Some bytes → pattern ≡ map Exactly bytes
spelled pattern bytes found = subst (λ (some : Option (List ℕ)). Spells some pattern) found (spells pattern)

-- a piece that is no longer than a field
pub is_piece-short : (field : Field) (piece : List PatternPart) (is_open : Bool) → length piece ≤ field.width
    → is_piece field piece is_open ≡ ends_at field piece is_open 0
is_piece-short field piece is_open short = rw (le-leb (length piece) field.width short) refl

pub is_piece-exact : (field : Field) (bytes : List ℕ) (is_open : Bool) → length bytes ≤ field.width
    → is_piece field (map Exactly bytes) is_open
    ≡ both (has_bytes field.offset bytes) (ends_so is_open (ends_filled (map Exactly bytes)) field (length bytes))
is_piece-exact field bytes is_open short =
    let count = length-map bytes Exactly in
    let from : field.offset + 0 ≡ field.offset = omega arith in
    let end : 0 + length (map Exactly bytes) ≡ length bytes = omega arith in
    is_piece-short field (map Exactly bytes) is_open (omega arith)
    ∙ rw (exact_bytes-exactly bytes)
    (ap (λ (at : ℕ). both (has_bytes at bytes) (ends_so is_open (ends_filled (map Exactly bytes)) field (0 + length (map Exactly bytes)))) from
    ∙ ap (λ (n : ℕ). both (has_bytes field.offset bytes) (ends_so is_open (ends_filled (map Exactly bytes)) field n)) end)
