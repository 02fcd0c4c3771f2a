-- A geocoder's query: a house number on a street, optionally in a ZIP code.
use Rattle.std.specs.Prelude.{ℕ, List, [], Option, Some, None, option_map, Result, Ok, Err}
use Rattle.numerals.specs.Numeral.{decimal_in}
use Rattle.tl_segments.specs.County.{CountyParts}
use Rattle.geocode.specs.Hits.{find}
use Rattle.geocode.specs.NameText.{name_text}
use Rattle.geocode.specs.declared.hit.Hit.{Hit}
use Rattle.geocode.specs.declared.house.House.{House}
use Rattle.geocode.specs.declared.query.Query.{Query}
use Rattle.geocode.specs.declared.query.QueryFault.{QueryFault}
use Rattle.geocode.specs.declared.query.QueryFault.TheVariants.{Number, Name, Zip}
use Rattle.geocode.specs.declared.query.TheConstants.{MAX_HOUSE_NUMBER_DIGITS}

-- the contents of a query; its name is in Latin-1, or none if no file can have it
pub record QueryParts : Type 0 where
  pub number : ℕ
  pub name : Option (List ℕ)
  pub zip : Option ℕ

abbrev pub parts_of : Query → QueryParts
parts_of query = record { number = query.number; name = query.name; zip = query.zip }

-- the number of a house or of a ZIP code in a text: 1 to 11 digits, and nothing else
abbrev pub house_number : List ℕ → Option ℕ
house_number text = decimal_in MAX_HOUSE_NUMBER_DIGITS text

-- the number of a ZIP code, if one is given; none if its text isn't a number
abbrev pub zip_number : Option (List ℕ) → Option (Option ℕ)
zip_number None = Some None
zip_number (Some text) = option_map Some (house_number text)

-- the query made of valid parts, or the first invalid part, in the order number, name, ZIP code
abbrev pub query_with : Option ℕ → Option (Option (List ℕ)) → Option (Option ℕ) → Result QueryParts QueryFault
query_with (Some number) (Some name) (Some zip) = Ok (record { number = number; name = name; zip = zip })
query_with None name zip = Err Number
query_with (Some number) None zip = Err Name
query_with (Some number) (Some name) None = Err Zip

-- the query made of texts: a number, a name and optionally a ZIP code
abbrev pub query_of : List ℕ → List ℕ → Option (List ℕ) → Result QueryParts QueryFault
query_of number name zip = query_with (house_number number) (name_text name) (zip_number zip)

-- the hits of a query with a name in Latin-1, in order
abbrev pub hits_with : Option (List ℕ) → House → List CountyParts → List Hit
hits_with None house counties = []
hits_with (Some name) house counties = find name house counties

-- the hits of a query in counties
abbrev pub hits_of : QueryParts → List CountyParts → List Hit
hits_of query counties = hits_with query.name (record { number = query.number; zip = query.zip }) counties
