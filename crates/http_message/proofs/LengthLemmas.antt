-- The values of the headers with a name, while the loop visits the headers.
use Rattle.std.proofs.Common.{◌≡◌, ℕ, ◌+◌, ◌<◌, ◌≤◌, true, false, List, [], ◌∷◌, ◌++◌, length, map, take, drop, get_or, Option, Some, None}
use Rattle.std.proofs.Common.{Err, Bor, refl, ap, sym, ◌∙◌}
use Rattle.std.specs.Prelude.{filter, Bool, ◌||◌}
use Rattle.std.specs.List.{list_any}
use Rattle.std.specs.Option.{is_some}
use Rattle.std.proofs.lemmas.List.{append-nil, map-append, take_all, take-append-drop, take_more}
use Rattle.std.proofs.lemmas.List.Elements.{filter-append}
use Rattle.http_message.specs.Length.{announced, is_named, length_of}
use Rattle.http_message.specs.declared.length.LengthFault.TheVariants.{Missing, Invalid}

-- the values of the headers with this name
abbrev pub values_in : List ℕ → List (List ℕ × List ℕ) → List (List ℕ)
values_in name headers = map (λ header. header.1) (filter (is_named name) headers)

-- the one value so far, or none
abbrev pub IsFound : Option (Bor (List ℕ)) → List (List ℕ) → Type 0
IsFound None values = values ≡ []
IsFound (Some value) values = values ≡ value.now ∷ []

-- one more header
headers-next : {X : Type 0} (f : X → List ℕ × List ℕ) (xs : List X) (i : ℕ) (d : X) → i < length xs
    → map f (take (i + 1) xs) ≡ map f (take i xs) ++ f (get_or xs i d) ∷ []
headers-next f xs i d inside = ap (map f) (take_more xs i d inside) ∙ map-append f (take i xs) (get_or xs i d ∷ [])

-- the headers visited, and those that follow
headers-split : {X : Type 0} (f : X → List ℕ × List ℕ) (xs : List X) (i : ℕ) → map f xs ≡ map f (take i xs) ++ map f (drop i xs)
headers-split f xs i = ap (map f) (sym (take-append-drop i xs)) ∙ map-append f (take i xs) (drop i xs)

values_in-append : (name : List ℕ) (front rest : List (List ℕ × List ℕ))
    → values_in name (front ++ rest) ≡ values_in name front ++ values_in name rest
values_in-append name front rest =
    let second : List ℕ × List ℕ → List ℕ = λ header. header.1 in
    ap (map second) (filter-append (is_named name) front rest) ∙ map-append second (filter (is_named name) front)
    (filter (is_named name) rest)

pub any_of : {X Y : Type 0} (test : Y → Bool) (f : X → Y) (xs : List X) → list_any (λ x. test (f x)) xs ≡ list_any test (map f xs)
any_of test f [] = refl
any_of test f (x ∷ xs) = ap (λ rest. test (f x) || rest) (any_of test f xs)

-- a name, the headers, and the number of headers visited
module _ {X : Type 0} (name : List ℕ) (f : X → List ℕ × List ℕ) (xs : List X) (i : ℕ) where
  -- the value of a header with the name comes after those so far
  pub values_in-named : (d : X) → i < length xs → is_named name (f (get_or xs i d)) ≡ true
      → values_in name (map f (take (i + 1) xs)) ≡ values_in name (map f (take i xs)) ++ (f (get_or xs i d)).1 ∷ []
  values_in-named d inside named =
      let alone : values_in name (f (get_or xs i d) ∷ []) ≡ (f (get_or xs i d)).1 ∷ [] = rw named refl in
      ap (values_in name) (headers-next f xs i d inside) ∙ values_in-append name (map f (take i xs)) (f (get_or xs i d) ∷ [])
      ∙ ap (λ (rest : List (List ℕ)). values_in name (map f (take i xs)) ++ rest) alone

  -- a header with another name changes nothing
  pub values_in-other : (d : X) → i < length xs → is_named name (f (get_or xs i d)) ≡ false
      → values_in name (map f (take (i + 1) xs)) ≡ values_in name (map f (take i xs))
  values_in-other d inside other =
      let alone : values_in name (f (get_or xs i d) ∷ []) ≡ [] = rw other refl in
      ap (values_in name) (headers-next f xs i d inside) ∙ values_in-append name (map f (take i xs)) (f (get_or xs i d) ∷ [])
      ∙ ap (λ (rest : List (List ℕ)). values_in name (map f (take i xs)) ++ rest) alone ∙ append-nil (values_in name (map f (take i xs)))

  -- the values of all headers: those of the headers visited, and those of the others
  pub values_in-split : (headers : List (List ℕ × List ℕ)) → map f xs ≡ headers
      → values_in name headers ≡ values_in name (map f (take i xs)) ++ values_in name (map f (drop i xs))
  values_in-split headers all =
      ap (values_in name) (sym all ∙ headers-split f xs i) ∙ values_in-append name (map f (take i xs)) (map f (drop i xs))

  -- all headers were visited
  pub values_in-all : (headers : List (List ℕ × List ℕ)) → length xs ≤ i → map f xs ≡ headers
      → values_in name headers ≡ values_in name (map f (take i xs))
  values_in-all headers past all = ap (values_in name) (sym all ∙ ap (map f) (sym (take_all i xs past)))

-- the first value
pub found_first : {now : Option (Bor (List ℕ))} (found : Option (Bor (List ℕ))) {value : Bor (List ℕ)} (values more : List (List ℕ))
    (bytes : List ℕ) → IsFound found values → is_some found ≡ false → more ≡ values ++ bytes ∷ [] → value.now ≡ bytes → now ≡ Some value
    → IsFound now more
found_first (Some old) values more bytes so_far none more_is is now_is = cc
found_first None values more bytes so_far none more_is is now_is = rw (now_is, more_is, so_far, is) refl

-- a second value
pub found_twice : (found : Option (Bor (List ℕ))) (values more rest : List (List ℕ)) (bytes : List ℕ) → IsFound found values
    → is_some found ≡ true → more ≡ values ++ bytes ∷ [] → Err Invalid ≡ announced (more ++ rest)
found_twice None values more rest bytes so_far some more_is = cc
found_twice (Some old) values more rest bytes so_far some more_is = rw (more_is, so_far) refl

-- the values found are all
pub found_none : (found : Option (Bor (List ℕ))) (values : List (List ℕ)) → IsFound found values → found ≡ None
    → Err Missing ≡ announced values
found_none None values so_far none = rw so_far refl
found_none (Some old) values so_far none = cc

pub found_one : (found : Option (Bor (List ℕ))) (value : Bor (List ℕ)) (values : List (List ℕ)) → IsFound found values
    → found ≡ Some value → length_of value.now ≡ announced values
found_one None value values so_far some = cc
found_one (Some old) value values so_far some =
    let same : old ≡ value = cc in
    rw (so_far, same) refl
