-- Matches in their places.
use Rattle.std.proofs.Common.{◌≡◌, ℕ, List, [], ◌∷◌, ◌++◌, refl, sym, subst, ap}
use Rattle.std.specs.Prelude.{IfOk, OnOk, Result, Ok, Err}
use Rattle.addresses.specs.Address.{AddressParts}
use Rattle.address_batch.specs.AddressQuery.{AddressQueryParts, address_query_of}
use Rattle.address_batch.specs.Lines.{id_of, lines_with}
use Rattle.address_batch.specs.LookupResult.{LookupParts, lookup_in, parts_of}
use Rattle.address_batch.specs.ShapedLookup.{AreShapedLines, ArePlaced, IsInPlace, IsPlaced, IsPlacedOrReason, IsShapedLookup}
use Rattle.address_batch.specs.declared.lookup.LookupResult.{LookupResult}
use Rattle.tl_segments.specs.County.{CountyParts}
use Rattle.geocode.specs.Matches.{MatchParts}

-- one more match in its place
pub placed-more : (number : ℕ) (counties : List CountyParts) (found placed : List MatchParts) (next moved : MatchParts) → ArePlaced number counties found placed
    → IsInPlace number counties next moved → ArePlaced number counties (found ++ next ∷ []) (placed ++ moved ∷ [])
placed-more number counties [] placed next moved none in_place = (moved, [], in_place, refl, ap (λ before. before ++ moved ∷ []) none)
placed-more number counties (first ∷ others) placed next moved (first_placed, after, is_first, are_others, is_placed) in_place = (
  first_placed,
  after ++ moved ∷ [],
  is_first,
  placed-more number counties others after next moved are_others in_place,
  ap (λ before. before ++ moved ∷ []) is_placed,
)

-- the answer to the question of an address, in its places
pub shaped_lookup : {A E : Type 0} → (result : Result (LookupResult A) E) (counties : List CountyParts)
    (address : AddressParts) (query : AddressQueryParts) (found : LookupParts) → address_query_of address ≡ Ok query → found ≡ lookup_in counties query
    → IfOk result (λ placed. IsPlaced query.query.number counties found (parts_of placed))
    → IfOk result (λ placed. IsShapedLookup counties address (parts_of placed))
shaped_lookup (Ok placed) counties address query found is_query is_found is_placed =
    subst (λ asked. IsPlacedOrReason counties asked (parts_of placed)) (sym is_query)
    (subst (λ found. IsPlaced query.query.number counties found (parts_of placed)) is_found is_placed)
shaped_lookup (Err error) counties address query found is_query is_found is_placed = tt

-- what was written on success are the lines of a lookup in its places
pub shaped_lines : {E : Type 0} → (result : Result (Unit {0}) E) (codes : List (List ℕ)) (counties : List CountyParts)
    (address : AddressParts) (lookup : LookupParts) (text : List ℕ) → IsShapedLookup counties address lookup
    → OnOk result (text ≡ lines_with (id_of address) codes lookup) → OnOk result (AreShapedLines codes counties address text)
shaped_lines (Ok done) codes counties address lookup text is lines = (lookup, is, lines)
shaped_lines (Err error) codes counties address lookup text is lines = tt
