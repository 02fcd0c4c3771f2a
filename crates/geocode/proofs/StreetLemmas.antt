-- The first full name of a segment that fits.
use Rattle.std.proofs.Common.{◌≡◌, ℕ, zero, suc, ◌+◌, ◌≤◌, Bool, true, false, List, [], ◌∷◌, ◌++◌, length, get_or, take, slice_get}
use Rattle.std.proofs.Common.{None, Some, is_some, refl, ap, sym, ◌∙◌, arith}
use Rattle.std.specs.List.{find, list_any}
use Rattle.std.proofs.lemmas.Grind.{take_at_read}
use Rattle.std.proofs.lemmas.List.{take_all}
use Rattle.std.proofs.lemmas.Option.{get_or_from_slice_get, slice_get_within}
use Rattle.tl_segments.specs.Affixes.{Affixes}
use Rattle.tl_segments.specs.FullName.{all_with_affixes, full_names_of}
use Rattle.tl_segments.specs.Name.{name_equals}
use Rattle.tl_segments.specs.Segment.{SegmentParts, names_of}
use Rattle.tl_segments.specs.declared.full_name.FullNameFields.{FullNameFields}
use Rattle.geocode.specs.Matches.{IsOnByName}
use Rattle.geocode.specs.Street.{StreetParts, WantsNameAlone, fits, name_on}
use Rattle.geocode.proofs.HitLemmas.{list_any-at, list_any-next}
use Rattle.geocode.proofs.MatchHitLemmas.{fits-name}

-- an element that passes the test, after others that don't
find-at : {X : Type 0} (p : X → Bool) (xs : List X) (n : ℕ) (x : X) → Some x ≡ slice_get xs n → true ≡ p x
    → find p (take n xs) ≡ None → find p xs ≡ Some x
find-at p [] n x is passes none = cc
find-at p (y ∷ ys) zero x is passes none =
    let same : x ≡ y = cc in
    let here : p y ≡ true = ap p (sym same) ∙ sym passes in
    rw here (sym is)
find-at p (y ∷ ys) (suc n) x is passes none = by (p y) refl (λ later. find-at p ys n x is passes later)
  where
    by : (b : Bool) → p y ≡ b → (find p (take n ys) ≡ None → find p ys ≡ Some x) → find p (y ∷ ys) ≡ Some x
    by true e later = let clash : Some y ≡ None = rw e at none in cc
    by false e later = rw e (later (rw e at none))

find-push : {X : Type 0} (p : X → Bool) (xs : List X) (x : X) → find p xs ≡ None → p x ≡ false → find p (xs ++ x ∷ []) ≡ None
find-push p [] x none fails = rw fails refl
find-push p (y ∷ ys) x none fails = by (p y) refl (λ later. find-push p ys x later fails)
  where
    by : (b : Bool) → p y ≡ b → (find p ys ≡ None → find p (ys ++ x ∷ []) ≡ None) → find p (y ∷ (ys ++ x ∷ [])) ≡ None
    by true e later = let clash : Some y ≡ None = rw e at none in cc
    by false e later = rw e (later (rw e at none))

-- and one that doesn't
find-next : {X : Type 0} (p : X → Bool) (xs : List X) (n : ℕ) (x : X) → Some x ≡ slice_get xs n → false ≡ p x
    → find p (take n xs) ≡ None → find p (take (n + 1) xs) ≡ None
find-next p xs n x is fails none =
    let here = get_or_from_slice_get xs n x x (sym is) in
    ap (find p) (take_at_read xs n x (slice_get_within xs n x (sym is))).1
    ∙ find-push p (take n xs) (get_or xs n x) none (ap p here ∙ sym fails)

with_affixes-short : (affixes : List Affixes) (names : List (List ℕ)) → length (all_with_affixes affixes names) ≤ length names
with_affixes-short [] names = omega arith
with_affixes-short (affix ∷ affixes) [] = omega arith
with_affixes-short (affix ∷ affixes) (name ∷ names) = let others = with_affixes-short affixes names in omega (arith, others)

-- a segment has at most as many full names as names
full_names-short : (segment : SegmentParts) → length (full_names_of segment) ≤ length segment.names + 1
full_names-short segment = let short = with_affixes-short segment.affixes segment.names in omega (arith, short)

module _ (street : StreetParts) (segment : SegmentParts) (n : ℕ) where
  -- none of the full names before this one fits and, with the name alone wanted, none of the names is the street's
  pub record NoneFits : Type 0 where
    pub full : find (fits street) (take n (full_names_of segment)) ≡ None
    pub named : WantsNameAlone street → list_any (λ named. name_equals named street.name) (take n (names_of segment)) ≡ false

  -- the full name with this number
  pub record IsFullNameAt (name : FullNameFields) : Type 0 where
    pub full : Some name ≡ slice_get (full_names_of segment) n
    pub named : Some name.fename ≡ slice_get (names_of segment) n

-- it fits
pub fits-here : (street : StreetParts) (segment : SegmentParts) (n : ℕ) (name : FullNameFields) → NoneFits street segment n
    → IsFullNameAt street segment n name → true ≡ fits street name → (name_on street segment ≡ Some name) × IsOnByName street segment
fits-here street segment n name none is passes =
    let found = find-at (fits street) (full_names_of segment) n name is.full passes none.full in (
      found,
      λ alone. ap (λ name. is_some name) found ∙ sym (list_any-at (λ named. name_equals named street.name) (names_of segment) n name.fename
          is.named (passes ∙ fits-name street name alone)),
    )

-- it doesn't fit
pub fits-later : (street : StreetParts) (segment : SegmentParts) (n : ℕ) (name : FullNameFields) → NoneFits street segment n
    → IsFullNameAt street segment n name → false ≡ fits street name → NoneFits street segment (n + 1)
fits-later street segment n name none is fails = record {
  full = find-next (fits street) (full_names_of segment) n name is.full fails none.full;
  named = λ alone. list_any-next (λ named. name_equals named street.name) (names_of segment) n name.fename is.named
      (fails ∙ fits-name street name alone) (none.named alone);
}

-- after the last full name
pub fits-nowhere : (street : StreetParts) (segment : SegmentParts) (n : ℕ) → NoneFits street segment n → length (names_of segment) ≤ n
    → (name_on street segment ≡ None) × IsOnByName street segment
fits-nowhere street segment n none last =
    let short = full_names-short segment in
    let all = take_all n (full_names_of segment) (omega (arith, last, short)) in
    let nowhere : name_on street segment ≡ None = ap (find (fits street)) (sym all) ∙ none.full in (
      nowhere,
      λ alone. ap (λ name. is_some name) nowhere ∙ sym (none.named alone)
          ∙ ap (list_any (λ named. name_equals named street.name)) (take_all n (names_of segment) last),
    )
