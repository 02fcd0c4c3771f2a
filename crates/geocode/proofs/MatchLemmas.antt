-- The matches in counties, up to one more.
use Rattle.std.proofs.Common.{◌≡◌, ℕ, suc, ◌+◌, ◌<◌, List, [], ◌∷◌, ◌++◌, map, length, get_or, take}
use Rattle.std.proofs.Common.{append_assoc, refl, ap, sym, ◌∙◌, arith}
use Rattle.std.specs.List.{flat_map}
use Rattle.std.proofs.lemmas.Grind.{take_at_read}
use Rattle.std.proofs.lemmas.List.{append-nil, flat_map_more, length-take-le, map-append}
use Rattle.tl_segments.specs.County.{CountyParts}
use Rattle.geocode.specs.Hits.{find, hits_in_county}
use Rattle.geocode.specs.Matches.{HitsAgree, HitsAgreeInCounty, MatchParts, matches_from, matches_in_county}
use Rattle.geocode.specs.Street.{StreetParts}
use Rattle.geocode.specs.declared.house.House.{House}

-- the matches in counties, with one more county
matches_from-push : (street : StreetParts) (house : House) (place : ℕ) (counties : List CountyParts) (county : CountyParts)
    → matches_from street house place (counties ++ county ∷ [])
    ≡ matches_from street house place counties ++ matches_in_county street house (place + length counties) county
matches_from-push street house place [] county =
    append-nil (matches_in_county street house place county)
    ∙ ap (λ place. matches_in_county street house place county) {x = place} {y = place + 0} (omega arith)
matches_from-push street house place (first ∷ counties) county =
    ap (λ found. matches_in_county street house place first ++ found) (matches_from-push street house (suc place) counties county
    ∙ ap (λ n. matches_from street house (suc place) counties ++ matches_in_county street house n county)
    {x = suc place + length counties} {y = place + suc (length counties)} (omega arith))
    ∙ sym (append_assoc (matches_in_county street house place first) (matches_from street house (suc place) counties)
    (matches_in_county street house (place + suc (length counties)) county))

pub matches_from-next : (street : StreetParts) (house : House) (counties : List CountyParts) (n : ℕ) (county : CountyParts)
    → (n < length counties) × (county ≡ get_or counties n county) → matches_from street house 0 (take (n + 1) counties)
    ≡ matches_from street house 0 (take n counties) ++ matches_in_county street house n county
matches_from-next street house counties n county at =
    let inside = at.0 in
    ap (matches_from street house 0) (take_at_read counties n county inside).1
    ∙ ap (λ county. matches_from street house 0 (take n counties ++ county ∷ [])) (sym at.1)
    ∙ matches_from-push street house 0 (take n counties) county
    ∙ ap (λ k. matches_from street house 0 (take n counties) ++ matches_in_county street house k county)
    {x = 0 + length (take n counties)} {y = n} (let taken = length-take-le n counties (omega (arith, inside)) in omega (arith, taken))

-- the hits of the matches in counties, with one more county
pub hits-agree-next : (street : StreetParts) (house : House) (counties : List CountyParts) (n : ℕ) (county : CountyParts)
    → (n < length counties) × (county ≡ get_or counties n county) → HitsAgreeInCounty street house n county
    → HitsAgree street house (take n counties) → HitsAgree street house (take (n + 1) counties)
hits-agree-next street house counties n county at agree so_far = λ alone.
    let hit = λ (found : MatchParts). found.hit in
    ap (map hit) (matches_from-next street house counties n county at)
    ∙ map-append hit (matches_from street house 0 (take n counties)) (matches_in_county street house n county)
    ∙ ap (λ hits. hits ++ map hit (matches_in_county street house n county)) (so_far alone)
    ∙ ap (λ hits. find street.name house (take n counties) ++ hits) (agree alone)
    ∙ flat_map_more (hits_in_county street.name house) [] (take n counties) county
    ∙ ap (λ county. find street.name house (take n counties ++ county ∷ [])) at.1
    ∙ ap (find street.name house) (sym (take_at_read counties n county at.0).1)
