-- The answer for an address.
use Rattle.std.specs.Prelude.{ℕ, Bool, false, ◌&&◌, List, [], ◌∷◌, map, if◌then◌else◌, Option, Some, None, Result, Ok, Err}
use Rattle.std.specs.List.{list_all}
use Rattle.std.specs.Ordering.{int_eq}
use Rattle.addresses.specs.Address.{AddressParts}
use Rattle.address_batch.specs.AddressQuery.{AddressQueryParts, address_query_of, street_in}
use Rattle.address_batch.specs.declared.lookup.LookupResult.{LookupResult}
use Rattle.address_batch.specs.declared.lookup.LookupResult.TheVariants as lookup
use Rattle.address_batch.specs.declared.reason.Reason.{Reason}
use Rattle.address_batch.specs.declared.reason.Reason.TheVariants.{NoSuchStreet, NoSuchNumber, OtherZip}
use Rattle.address_batch.specs.declared.lookup.MatchStatus.{MatchStatus}
use Rattle.address_batch.specs.declared.lookup.MatchStatus.TheVariants.{Match, Tie, NoMatch}
use Rattle.geocode.specs.Matches.{MatchParts, has_street, match_of, matches}
use Rattle.geocode.specs.Street.{StreetParts}
use Rattle.linear_referencing.specs.declared.place.Place.{Place}
use Rattle.tl_segments.specs.County.{CountyParts}

-- the matches of an address, or why there are none
pub data LookupParts : Type 0 where
  Found : List MatchParts → LookupParts
  NotFound : Reason → LookupParts

abbrev pub parts_of : {A : Type 0} → LookupResult A → LookupParts
parts_of (lookup.Found found) = Found (map match_of found.items)
parts_of (lookup.NotFound reason) = NotFound reason

-- both places are known and equal
abbrev pub is_at : Option Place → Option Place → Bool
is_at (Some place) (Some other) = int_eq place.longitude other.longitude && int_eq place.latitude other.latitude
is_at place other = false

abbrev pub are_all_at : Option Place → List MatchParts → Bool
are_all_at place found = list_all (λ other. is_at place other.hit.place) found

-- all matches are in the place of the first; the place of a single match may be unknown
abbrev pub status_of : List MatchParts → MatchStatus
status_of [] = NoMatch
status_of (first ∷ others) = if are_all_at first.hit.place others then Match else Tie

-- the number is on the street in no ZIP code, or in another one
abbrev pub why_not_in_zip : List MatchParts → Reason
why_not_in_zip [] = NoSuchNumber
why_not_in_zip (found ∷ others) = OtherZip

-- the matches of a house number on a street, in this ZIP code or in any
abbrev pub found_on : List CountyParts → StreetParts → ℕ → Option ℕ → List MatchParts
found_on counties street number zip = matches street (record { number = number; zip = zip }) counties

-- why a house number wasn't found on a street
abbrev pub why_none : List CountyParts → StreetParts → ℕ → Reason
why_none counties street number = if has_street street counties then why_not_in_zip (found_on counties street number None) else NoSuchStreet

-- what was found, or why nothing was
abbrev pub found_or : Reason → List MatchParts → LookupParts
found_or reason [] = NotFound reason
found_or reason (first ∷ others) = Found (first ∷ others)

-- the answer for a house on a street, or on none because no file can have its name
abbrev pub lookup_on : List CountyParts → Option StreetParts → ℕ → Option ℕ → LookupParts
lookup_on counties None number zip = NotFound NoSuchStreet
lookup_on counties (Some street) number zip = found_or (why_none counties street number) (found_on counties street number zip)

-- the answer to a question in counties
abbrev pub lookup_in : List CountyParts → AddressQueryParts → LookupParts
lookup_in counties address_query = lookup_on counties (street_in address_query) address_query.query.number address_query.query.zip

abbrev pub lookup_or_reason : List CountyParts → Result AddressQueryParts Reason → LookupParts
lookup_or_reason counties (Ok address_query) = lookup_in counties address_query
lookup_or_reason counties (Err reason) = NotFound reason

-- the answer for an address
abbrev pub lookup_of : List CountyParts → AddressParts → LookupParts
lookup_of counties address = lookup_or_reason counties (address_query_of address)
