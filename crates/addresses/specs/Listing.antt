-- The addresses of a file, and the fault that ends them, if any.
use Rattle.std.specs.Prelude.{◌≡◌, ⊤, ℕ, Bool, true, false, List, [], ◌∷◌, ◌++◌, map, Option, Some, None, Result, Ok, Err}
use Rattle.addresses.specs.Address.{AddressParts, address_of}
use Rattle.addresses.specs.Columns.{columns_of}
use Rattle.addresses.specs.Reading.{Reading, RecordParts, reading_of}
use Rattle.addresses.specs.declared.addresses.Addresses.{Addresses}
use Rattle.addresses.specs.declared.columns.HeaderColumns.{HeaderColumns}
use Rattle.addresses.specs.declared.fault.AddressFault.{AddressFault}
use Rattle.addresses.specs.declared.fault.AddressFault.TheVariants.{NoHeader, At, Memory}
use Rattle.addresses.specs.declared.fault.AddressFaultKind.{AddressFaultKind}

-- the addresses that can be read, and the fault of the record after them, if any
pub record Listing : Type 0 where
  pub addresses : List AddressParts
  pub fault : Option AddressFault

-- no addresses and no fault
abbrev pub ended : Listing
ended = record { addresses = []; fault = None }

abbrev pub ended_by : AddressFault → Listing
ended_by fault = record { addresses = []; fault = Some fault }

-- addresses, followed by those of a listing
abbrev pub with_addresses : List AddressParts → Listing → Listing
with_addresses first later = record { addresses = first ++ later.addresses; fault = later.fault }

-- the records under a header with these columns
abbrev pub listed : HeaderColumns → Reading → Listing
listed columns reading = record { addresses = map (address_of columns) reading.records; fault = reading.fault }

abbrev pub under_columns : ℕ → Result HeaderColumns AddressFaultKind → Reading → Result Listing AddressFault
under_columns line (Err flaw) reading = Err (At line flaw)
under_columns line (Ok columns) reading = Ok (listed columns reading)

-- the first record is the header
abbrev pub under_header : List RecordParts → Option AddressFault → Result Listing AddressFault
under_header [] None = Err NoHeader
under_header [] (Some fault) = Err fault
under_header (header ∷ rows) fault = under_columns header.line (columns_of header.fields) (record { records = rows; fault = fault })

-- the addresses of a file under its header, or the fault of its header
abbrev pub addresses_in : List ℕ → Result Listing AddressFault
addresses_in file = under_header (reading_of file).records (reading_of file).fault

-- the remaining addresses
abbrev pub addresses_left : Addresses → Listing
addresses_left addresses = listed addresses.columns addresses.unread

-- The result of reading the header: the file's addresses, none of them read yet, or the header's fault. Otherwise an allocation failed.
abbrev pub IsHeaderRead : Result Addresses AddressFault → Result Listing AddressFault → Type 0
IsHeaderRead (Ok addresses) held = held ≡ Ok (addresses_left addresses)
IsHeaderRead (Err (At line flaw)) held = held ≡ Err (At line flaw)
IsHeaderRead (Err NoHeader) held = held ≡ Err NoHeader
IsHeaderRead (Err Memory) held = ⊤

-- The result of reading the next address: true with the address, leaving the later ones; false at the end; or the next fault. Otherwise an allocation
-- failed.
abbrev pub IsAddressRead : Result Bool AddressFault → AddressParts → Listing → Listing → Type 0
IsAddressRead (Ok true) address old new = old ≡ with_addresses (address ∷ []) new
IsAddressRead (Ok false) address old new = (old ≡ ended) × (new ≡ ended)
IsAddressRead (Err (At line flaw)) address old new = old ≡ ended_by (At line flaw)
IsAddressRead (Err NoHeader) address old new = ⊥
IsAddressRead (Err Memory) address old new = ⊤
