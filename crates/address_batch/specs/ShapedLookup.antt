-- The answer for an address, with each match in its place along the shape of its segment (TIGER/Line 2006, record type 2).
use Rattle.std.specs.Prelude.{◌≡◌, ℕ, List, [], ◌∷◌, slice_get, Option, Result, Ok, Err}
use Rattle.std.specs.Option.{option_map_or}
use Rattle.addresses.specs.Address.{AddressParts}
use Rattle.address_batch.specs.AddressQuery.{AddressQueryParts, address_query_of}
use Rattle.address_batch.specs.Lines.{id_of, lines_with}
use Rattle.address_batch.specs.LookupResult.{LookupParts, Found, NotFound, lookup_in}
use Rattle.address_batch.specs.declared.reason.Reason.{Reason}
use Rattle.geocode.specs.Matches.{MatchParts}
use Rattle.geocode.specs.ShapePlace.{IsOnShape}
use Rattle.linear_referencing.specs.declared.place.Place.{Place}
use Rattle.tl_segments.specs.County.{CountyParts, shapes_in}
use Rattle.tl_segments.specs.Shape.{ShapePartParts}

-- the shape of a match's segment: none if its county has no shapes
abbrev pub shape_of : List CountyParts → MatchParts → List ShapePartParts
shape_of counties found = option_map_or (λ county. shapes_in county found.hit.tlid) (slice_get counties found.county) []

-- a match in another place
abbrev pub moved_to : Option Place → MatchParts → MatchParts
moved_to place found = record found { hit = record found.hit { place = place } }

-- the same match of a house number, in its place along the shape of its segment
abbrev pub IsInPlace : ℕ → List CountyParts → MatchParts → MatchParts → Type 0
IsInPlace number counties found placed =
    (place : Option Place) × IsOnShape number found (shape_of counties found) place × (placed ≡ moved_to place found)

-- the same matches, each in its place
abbrev pub ArePlaced : ℕ → List CountyParts → List MatchParts → List MatchParts → Type 0
ArePlaced number counties [] placed = placed ≡ []
ArePlaced number counties (found ∷ others) placed =
    (first : MatchParts) × (after : List MatchParts) × IsInPlace number counties found first × ArePlaced number counties others after × (placed ≡ first ∷ after)

-- the matches in their places, or why there are none
abbrev pub IsPlaced : ℕ → List CountyParts → LookupParts → LookupParts → Type 0
IsPlaced number counties (Found found) lookup = (placed : List MatchParts) × ArePlaced number counties found placed × (lookup ≡ Found placed)
IsPlaced number counties (NotFound reason) lookup = lookup ≡ NotFound reason

abbrev pub IsPlacedOrReason : List CountyParts → Result AddressQueryParts Reason → LookupParts → Type 0
IsPlacedOrReason counties (Ok address_query) lookup = IsPlaced address_query.query.number counties (lookup_in counties address_query) lookup
IsPlacedOrReason counties (Err reason) lookup = lookup ≡ NotFound reason

-- the answer for an address, with its matches in their places
abbrev pub IsShapedLookup : List CountyParts → AddressParts → LookupParts → Type 0
IsShapedLookup counties address lookup = IsPlacedOrReason counties (address_query_of address) lookup

-- the lines of an address in counties with these codes, with its matches in their places
abbrev pub AreShapedLines : List (List ℕ) → List CountyParts → AddressParts → List ℕ → Type 0
AreShapedLines codes counties address text =
    (lookup : LookupParts) × IsShapedLookup counties address lookup × (text ≡ lines_with (id_of address) codes lookup)
