-- Cells of a line, appended one after the other.
use Rattle.std.proofs.Common.{◌≡◌, ℕ, ◌+◌, ◌<◌, List, [], ◌∷◌, ◌++◌, length, get_or, take, ap, sym, ◌∙◌}
use Rattle.std.specs.List.{flat_map}
use Rattle.std.proofs.lemmas.Grind.{take_at_read}
use Rattle.std.proofs.lemmas.List.{flat_map_more}

-- one more cell
pub with_cell : {before cells next : List (List ℕ)} {cell expected : List ℕ} → cells ≡ before → next ≡ cells ++ cell ∷ [] → cell ≡ expected
    → next ≡ before ++ expected ∷ []
with_cell {before} {cell} so_far added is = added ∙ ap (λ cells. cells ++ cell ∷ []) so_far ∙ ap (λ cell. before ++ cell ∷ []) is

-- the results for the elements up to one more, after its results were appended to those before it
pub flat_map-next : {X : Type 0} (f : X → List ℕ) (start now : List ℕ) (xs : List X) (n : ℕ) (d : X) → n < length xs
    → now ≡ start ++ flat_map f (take n xs) → now ++ f (get_or xs n d) ≡ start ++ flat_map f (take (n + 1) xs)
flat_map-next f start now xs n d inside so_far =
    ap (λ now. now ++ f (get_or xs n d)) so_far ∙ flat_map_more f start (take n xs) (get_or xs n d)
    ∙ ap (λ xs. start ++ flat_map f xs) (sym (take_at_read xs n d inside).1)
