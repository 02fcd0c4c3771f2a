-- One more iteration of a loop that writes.
use Rattle.std.proofs.Common.{◌≡◌, ℕ, ◌+◌, ◌<◌, Bool, true, false, List, [], ◌∷◌, ◌++◌, map, take, length, get_or, refl, sym, ap, ◌∙◌, append_assoc, subst}
use Rattle.std.proofs.Common.{arith, rules}
use Rattle.std.proofs.lemmas.List.{append-nil}
use Rattle.std.proofs.lemmas.List.Elements.{All-append}
use Rattle.std.specs.List.{filter, flat_map, All}
use Rattle.std.specs.Prelude.{cond, codes, OnOk, Result, Ok, Err, is_ok, if◌then◌else◌}
use Rattle.std.proofs.Common.{add-one}
use Rattle.std.proofs.lemmas.List.{map-append}
use Rattle.std.proofs.lemmas.Grind.{flat_map-append}
use Rattle.std.proofs.lemmas.List.{take_more}
use Rattle.listing_notes.specs.Facts.{joined}
use Rattle.listing_notes.specs.Reads.{part_at, parts_from}
use Rattle.listing_notes.specs.declared.notation.Part.{Part}
use Rattle.std.proofs.lemmas.List.FromFn.{filter_of_map_range_with_len_more}

-- two texts are appended, one after the other
pub appended-twice : (old x y : List ℕ) {middle new : List ℕ} → middle ≡ old ++ x → new ≡ middle ++ y → new ≡ old ++ (x ++ y)
appended-twice old x y first_is then_is = then_is ∙ ap (λ (xs : List ℕ). xs ++ y) first_is ∙ append_assoc old x y

-- a last text is appended, unless the call fails
pub appended-last : {T E : Type 0} (result : Result T E) (middle z whole : List ℕ) {new : List ℕ} → new ≡ (if is_ok result then middle ++ z else middle)
    → middle ++ z ≡ whole → OnOk result (new ≡ whole)
appended-last (Ok value) middle z whole then_is same = then_is ∙ same
appended-last (Err error) middle z whole then_is same = tt

-- one more part is chosen or not
pub parts-next : (p : Part → Bool) (first n at : ℕ) → first + n ≡ at
    → filter p (parts_from first (n + 1)) ≡ filter p (parts_from first n) ++ cond (p (part_at at)) (part_at at ∷ []) []
unfolding parts_from
parts-next p first n at place = filter_of_map_range_with_len_more p part_at first n at place

pub no-parts : (p : Part → Bool) (first : ℕ) → filter p (parts_from first 0) ≡ []
unfolding parts_from
no-parts p first = refl

-- a property of all elements, with one more
pub All-next : {X : Type 0} (P : X → Type 0) (before new : List X) (x : X) (chosen : Bool) → All P before → P x
    → new ≡ before ++ cond chosen (x ∷ []) [] → All P new
All-next P before new x true are is adds = subst (All P) (sym adds) (All-append P before (x ∷ []) are (search rules))
All-next P before new x false are is adds = subst (All P) (sym (adds ∙ append-nil before)) are

-- one more element of a list is mapped
pub map-next : {X Y : Type 0} (f : X → Y) (xs : List X) (i : ℕ) (d : X) → i < length xs
    → map f (take (i + 1) xs) ≡ map f (take i xs) ++ (f (get_or xs i d) ∷ [])
map-next f xs i d inside = ap (map f) (take_more xs i d inside) ∙ map-append f (take i xs) (get_or xs i d ∷ [])

-- the comma that follows texts, if there are any
abbrev pub comma_after : {X : Type 0} → List X → List ℕ
comma_after [] = []
comma_after (x ∷ xs) = codes ", "

-- one more text is joined
joined-next : (texts : List (List ℕ)) (text : List ℕ) → joined (texts ++ text ∷ []) ≡ joined texts ++ (comma_after texts ++ text)
joined-next [] text = append-nil text
joined-next (first ∷ texts) text =
    ap (λ xs. first ++ xs) (flat_map-append (λ next. codes ", " ++ next) texts (text ∷ [])
    ∙ ap (λ xs. flat_map (λ next. codes ", " ++ next) texts ++ xs) (append-nil (codes ", " ++ text)))
    ∙ sym (append_assoc first (flat_map (λ next. codes ", " ++ next) texts) (codes ", " ++ text))

comma-map : {X Y : Type 0} (f : X → Y) (xs : List X) → comma_after (map f xs) ≡ comma_after xs
comma-map f [] = refl
comma-map f (x ∷ xs) = refl

pub comma-next : {X : Type 0} (xs : List X) (i : ℕ) → i < length xs → codes ", " ≡ comma_after (take (i + 1) xs)
comma-next [] i inside = absurd (omega arith)
comma-next (x ∷ xs) i inside = rw add-one refl

pub facts-next : {X : Type 0} (f : X → List ℕ) (xs : List X) (i : ℕ) (d : X) → i < length xs
    → joined (map f (take (i + 1) xs)) ≡ joined (map f (take i xs)) ++ (comma_after (take i xs) ++ f (get_or xs i d))
facts-next f xs i d inside =
    ap joined (map-next f xs i d inside) ∙ joined-next (map f (take i xs)) (f (get_or xs i d))
    ∙ ap (λ (comma : List ℕ). joined (map f (take i xs)) ++ (comma ++ f (get_or xs i d))) (comma-map f (take i xs))
