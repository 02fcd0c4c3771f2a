-- The question that an address asks: where a house number is on a street, optionally in a ZIP code.
use Rattle.std.specs.Prelude.{ℕ, Bool, ◌||◌, ◌==◌, List, length, if◌then◌else◌, Option, Some, None, option_map, Result, Ok, Err}
use Rattle.addresses.specs.Address.{AddressParts}
use Rattle.address_batch.specs.declared.reason.Reason.{Reason}
use Rattle.address_batch.specs.declared.reason.Reason.TheVariants.{Missing, NotANumber, NameTooLong}
use Rattle.address_batch.specs.declared.address_query.AddressQuery.{AddressQuery}
use Rattle.geocode.specs.Query.{QueryParts, query_of}
use Rattle.geocode.specs.Query as query
use Rattle.geocode.specs.Street.{StreetParts}
use Rattle.geocode.specs.declared.query.QueryFault.{QueryFault}
use Rattle.geocode.specs.declared.query.QueryFault.TheVariants as query_fault

-- a query, and the street's directions and type if they are wanted
pub record AddressQueryParts : Type 0 where
  pub query : QueryParts
  pub predir : List ℕ
  pub kind : List ℕ
  pub sufdir : List ℕ

abbrev pub parts_of : AddressQuery → AddressQueryParts
parts_of address_query = record {
  query = query.parts_of address_query.query;
  predir = address_query.predir.now;
  kind = address_query.kind.now;
  sufdir = address_query.sufdir.now;
}

-- the street, or none if no file can have its name
abbrev pub street_in : AddressQueryParts → Option StreetParts
street_in address_query = option_map
    (λ name. record { name = name; predir = address_query.predir; kind = address_query.kind; sufdir = address_query.sufdir }) address_query.query.name

abbrev pub is_empty : List ℕ → Bool
is_empty text = length text == 0

-- the number or the name is missing
abbrev pub is_missing : AddressParts → Bool
is_missing address = is_empty address.number || is_empty address.name

-- an empty ZIP code counts as none
abbrev pub zip_of : List ℕ → Option (List ℕ)
zip_of zip = if is_empty zip then None else Some zip

-- a house number and a ZIP code have 1 to 11 digits, and a name has at most 30 characters
abbrev pub reason_of : QueryFault → Reason
reason_of query_fault.Number = NotANumber
reason_of query_fault.Name = NameTooLong
reason_of query_fault.Zip = NotANumber

-- the question of a query, with the directions and the type of an address
abbrev pub query_or_reason : AddressParts → Result QueryParts QueryFault → Result AddressQueryParts Reason
query_or_reason address (Ok query) = Ok (record { query = query; predir = address.predir; kind = address.kind; sufdir = address.sufdir })
query_or_reason address (Err fault) = Err (reason_of fault)

-- the question that an address asks, or why it asks none
abbrev pub address_query_of : AddressParts → Result AddressQueryParts Reason
address_query_of address =
    if is_missing address then Err Missing else query_or_reason address (query_of address.number address.name (zip_of address.zip))
