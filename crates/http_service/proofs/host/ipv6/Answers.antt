use Rattle.std.proofs.Common.{◌≡◌, ℕ, List, [], ◌∷◌, length, get_or, refl, sym, ◌∙◌, rules}
use Rattle.std.proofs.lemmas.Slice.Eq.{text_from_reads}
use Rattle.http_service.proofs.host.ipv6.Goals as goal

eight_items : (xs : List ℕ) → length xs ≡ 8
    → xs ≡ get_or xs 0 0 ∷ get_or xs 1 0 ∷ get_or xs 2 0 ∷ get_or xs 3 0 ∷ get_or xs 4 0 ∷ get_or xs 5 0 ∷ get_or xs 6 0 ∷ get_or xs 7 0 ∷ []
eight_items xs h = text_from_reads xs _ h (refl, (refl, (refl, (refl, (refl, (refl, (refl, (refl, tt))))))))

pub returns : goal.returns
returns c = rw (sym c.segments.ensures ∙ eight_items c.segments.result (search rules)) (search rules)
