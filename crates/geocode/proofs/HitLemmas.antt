-- Hits for the elements of a list, up to one more.
use Rattle.std.proofs.Common.{◌≡◌, ℕ, ◌+◌, ◌<◌, Bool, true, false, cond, List, [], ◌∷◌, ◌++◌, length, filter, get_or, take, slice_get, Some}
use Rattle.std.proofs.Common.{None, refl, ap, sym, ◌∙◌}
use Rattle.std.specs.List.{flat_map, list_any}
use Rattle.std.proofs.lemmas.Grind.{take_at_read}
use Rattle.std.proofs.lemmas.List.{append-nil, flat_map_more, get_or-map, length-map}
use Rattle.std.proofs.lemmas.List.Elements.{filter-append}
use Rattle.std.proofs.lemmas.List.Folds.{list_any_at, list_any_more}
use Rattle.std.proofs.lemmas.Option.{get_or_from_slice_get, slice_get-get_or, slice_get_within}
use Rattle.tl_segments.specs.County.{AreTlids, tlid_of}
use Rattle.tl_segments.specs.Segment.{SegmentParts}

-- the results for the elements up to one more, after the results for the element that was read were appended to those before it
pub flat_map-at : {X Y : Type 0} (f : X → List Y) (start now : List Y) (xs : List X) (n : ℕ) (x : X) → Some x ≡ slice_get xs n
    → now ≡ start ++ flat_map f (take n xs) → now ++ f x ≡ start ++ flat_map f (take (n + 1) xs)
flat_map-at f start now xs n x is so_far =
    ap (λ now. now ++ f x) so_far ∙ flat_map_more f start (take n xs) x
    ∙ ap (λ x. start ++ flat_map f (take n xs ++ x ∷ [])) (sym (get_or_from_slice_get xs n x x (sym is)))
    ∙ ap (λ xs. start ++ flat_map f xs) (sym (take_at_read xs n x (slice_get_within xs n x (sym is))).1)

-- a number less than the length reads an element
pub read-within : {X : Type 0} (xs : List X) (n : ℕ) (d : X) → n < length xs → ¬ (None ≡ slice_get xs n)
read-within xs n d inside none =
    let clash : None ≡ Some (get_or xs n d) = none ∙ slice_get-get_or xs n d inside in cc

-- an element that passes the test
pub list_any-at : {X : Type 0} (p : X → Bool) (xs : List X) (n : ℕ) (x : X) → Some x ≡ slice_get xs n → true ≡ p x → list_any p xs ≡ true
list_any-at p xs n x is passes =
    list_any_at p xs n x (slice_get_within xs n x (sym is)) (ap p (get_or_from_slice_get xs n x x (sym is)) ∙ sym passes)

-- and one that doesn't, after others that don't
pub list_any-next : {X : Type 0} (p : X → Bool) (xs : List X) (n : ℕ) (x : X) → Some x ≡ slice_get xs n → false ≡ p x
    → list_any p (take n xs) ≡ false → list_any p (take (n + 1) xs) ≡ false
list_any-next p xs n x is fails so_far =
    let at_n : p (get_or xs n x) ≡ false = ap p (get_or_from_slice_get xs n x x (sym is)) ∙ sym fails in
    list_any_more p xs n x (slice_get_within xs n x (sym is)) ∙ rw (so_far, at_n) refl

-- there are as many TLIDs as segments
pub tlids-long : (tlids : List ℕ) (segments : List SegmentParts) → AreTlids tlids segments → length tlids ≡ length segments
tlids-long tlids segments same = sym (length-map tlids Some) ∙ ap length same ∙ length-map segments tlid_of
