-- Indexes of counties, in order.
use Rattle.std.proofs.Common.{◌≡◌, ℕ, ◌+◌, ◌<◌, List, [], ◌∷◌, ◌++◌, length, take, zero, suc, get_or, ap, sym, ◌∙◌, refl, subst, arith}
use Rattle.std.proofs.lemmas.Grind.{take_at_read}
use Rattle.tl_segments.specs.County.{CountyParts}
use Rattle.geocode.specs.Gazetteer.{AreIndexesOf}
use Rattle.geocode.specs.NameIndex.{IsIndexOf}
use Rattle.geocode.specs.declared.name_index.NameIndex.{NameIndex}

-- the indexes of counties, and of one more county
AreIndexesOf-push : {A : Type 0} (indexes : List (NameIndex A)) (counties : List CountyParts) (index : NameIndex A) (county : CountyParts)
    → AreIndexesOf indexes counties → IsIndexOf index county.segments → AreIndexesOf (indexes ++ index ∷ []) (counties ++ county ∷ [])
AreIndexesOf-push [] [] index county are is = (is, tt)
AreIndexesOf-push [] (other ∷ counties) index county are is = absurd are
AreIndexesOf-push (other ∷ indexes) [] index county are is = absurd are
AreIndexesOf-push (first ∷ indexes) (other ∷ counties) index county are is =
    (are.0, AreIndexesOf-push indexes counties index county are.1 is)

pub AreIndexesOf-next : {A : Type 0} (indexes : List (NameIndex A)) (counties : List CountyParts) (n : ℕ) (index : NameIndex A)
    (county : CountyParts) → (n < length counties) × (county ≡ get_or counties n county) → AreIndexesOf indexes (take n counties)
    → IsIndexOf index county.segments → AreIndexesOf (indexes ++ index ∷ []) (take (n + 1) counties)
AreIndexesOf-next indexes counties n index county at are is =
    let split : take n counties ++ county ∷ [] ≡ take (n + 1) counties =
    ap (λ (county : CountyParts). take n counties ++ county ∷ []) at.1 ∙ sym (take_at_read counties n county at.0).1 in
    subst (AreIndexesOf (indexes ++ index ∷ [])) split (AreIndexesOf-push indexes (take n counties) index county are is)

-- there are as many indexes as counties
pub AreIndexesOf-long : {A : Type 0} (indexes : List (NameIndex A)) (counties : List CountyParts) → AreIndexesOf indexes counties
    → length indexes ≡ length counties
AreIndexesOf-long [] [] are = refl
AreIndexesOf-long [] (county ∷ counties) are = absurd are
AreIndexesOf-long (index ∷ indexes) [] are = absurd are
AreIndexesOf-long (index ∷ indexes) (county ∷ counties) are = ap (λ (n : ℕ). suc n) (AreIndexesOf-long indexes counties are.1)

-- the index at a position in the list
pub IsIndexOf-at : {A : Type 0} (indexes : List (NameIndex A)) (counties : List CountyParts) (n : ℕ) (index : NameIndex A)
    (county : CountyParts) → AreIndexesOf indexes counties → (n < length counties) × (county ≡ get_or counties n county)
    → index ≡ get_or indexes n index → IsIndexOf index county.segments
IsIndexOf-at [] [] n index county are at is = absurd (omega (arith, at.0))
IsIndexOf-at [] (other ∷ counties) n index county are at is = absurd are
IsIndexOf-at (other ∷ indexes) [] n index county are at is = absurd are
IsIndexOf-at (first ∷ indexes) (other ∷ counties) zero index county are at is =
    subst (λ index. IsIndexOf index county.segments) (sym is)
    (subst (λ (county : CountyParts). IsIndexOf first county.segments) (sym at.1) are.0)
IsIndexOf-at (first ∷ indexes) (other ∷ counties) (suc n) index county are at is =
    IsIndexOf-at indexes counties n index county are.1 (omega (arith, at.0), at.1) is
