-- The lines of output (RFC 4180): a header, and for each address one line per match, or one line that says why there is none.
use Rattle.std.specs.Prelude.{ℕ, List, [], ◌∷◌, ◌++◌, replicate, codes, decimal, slice_get, unwrap_or, Option, Some, None}
use Rattle.std.specs.List.{flat_map}
use Rattle.csv.specs.Records.{fields_of}
use Rattle.csv.specs.Writing.{default_writer, row_text}
use Rattle.addresses.specs.Address.{AddressParts}
use Rattle.addresses.specs.Columns.{trimmed}
use Rattle.address_batch.specs.LookupResult.{LookupParts, Found, NotFound, lookup_of, status_of}
use Rattle.numerals.specs.Degrees.{degrees}
use Rattle.address_batch.specs.declared.reason.Reason.{Reason}
use Rattle.address_batch.specs.declared.reason.Reason.TheVariants as reason
use Rattle.address_batch.specs.declared.lookup.MatchStatus.{MatchStatus}
use Rattle.address_batch.specs.declared.lookup.MatchStatus.TheVariants.{Match, Tie, NoMatch}
use Rattle.address_batch.specs.declared.row.Cells.{Cells}
use Rattle.geocode.specs.HitLine.{letter}
use Rattle.geocode.specs.Latin1.{utf8_of}
use Rattle.geocode.specs.Matches.{MatchParts}
use Rattle.linear_referencing.specs.declared.place.Place.{Place}
use Rattle.tl_segments.specs.County.{CountyParts}

-- the names of the columns
abbrev pub header : List ℕ
header = codes "id,status,reason,longitude,latitude,tlid,side,fedirp,fename,fetype,fedirs,zip,county,from,to\n"

abbrev pub status_text : MatchStatus → List ℕ
status_text Match = codes "match"
status_text Tie = codes "tie"
status_text NoMatch = codes "no_match"

abbrev pub reason_text : Reason → List ℕ
reason_text reason.NoSuchStreet = codes "no_such_street"
reason_text reason.NoSuchNumber = codes "no_such_number"
reason_text reason.OtherZip = codes "other_zip"
reason_text reason.NotANumber = codes "not_a_number"
reason_text reason.NameTooLong = codes "name_too_long"
reason_text reason.Missing = codes "missing"

-- decimal degrees, or empty if there is no place
abbrev pub longitude_cell : Option Place → List ℕ
longitude_cell (Some place) = degrees place.longitude
longitude_cell None = []

abbrev pub latitude_cell : Option Place → List ℕ
latitude_cell (Some place) = degrees place.latitude
latitude_cell None = []

-- the code of the county with this index in the list
abbrev pub code_at : List (List ℕ) → ℕ → List ℕ
code_at counties county = unwrap_or (slice_get counties county) []

-- an address's id, or its line if the file has no ids
abbrev pub id_of : AddressParts → List ℕ
id_of address = unwrap_or address.id (decimal address.line)

-- a field of a record without leading and trailing blanks, in UTF-8
abbrev pub field_text : List ℕ → List ℕ
field_text field = utf8_of (trimmed field)

abbrev pub match_cells : List ℕ → MatchStatus → List (List ℕ) → MatchParts → List (List ℕ)
match_cells id status counties found =
    id ∷ status_text status ∷ [] ∷ longitude_cell found.hit.place ∷ latitude_cell found.hit.place ∷ decimal found.hit.tlid
    ∷ letter found.hit.side ∷ field_text found.name.fedirp ∷ field_text found.name.fename ∷ field_text found.name.fetype ∷ field_text found.name.fedirs
    ∷ field_text found.side.zip ∷ code_at counties found.county ∷ field_text found.side.from ∷ field_text found.side.to ∷ []

abbrev pub none_cells : List ℕ → Reason → List (List ℕ)
none_cells id reason = id ∷ status_text NoMatch ∷ reason_text reason ∷ replicate 12 []

-- a record as the crate csv writes it, terminated by LF
abbrev pub line : List (List ℕ) → List ℕ
line cells = row_text default_writer cells

-- the cells of a line so far
abbrev pub cells_of : Cells → List (List ℕ)
cells_of cells = fields_of cells.cells

-- one line for each match
abbrev pub lines_with : List ℕ → List (List ℕ) → LookupParts → List ℕ
lines_with id counties (Found found) = flat_map (λ one. line (match_cells id (status_of found) counties one)) found
lines_with id counties (NotFound reason) = line (none_cells id reason)

-- the lines of an address in counties with these codes
abbrev pub lines_of : List (List ℕ) → List CountyParts → AddressParts → List ℕ
lines_of codes counties address = lines_with (id_of address) codes (lookup_of counties address)

-- the output for addresses, in order
abbrev pub lines_of_all : List (List ℕ) → List CountyParts → List AddressParts → List ℕ
lines_of_all codes counties addresses = header ++ flat_map (lines_of codes counties) addresses
