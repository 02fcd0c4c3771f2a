-- The output for a file of addresses, or why it has none.
use Rattle.std.specs.Prelude.{◌≡◌, ⊤, ℕ, List, Option, Some, None, Result, Ok, Err}
use Rattle.addresses.specs.Address.{AddressParts}
use Rattle.addresses.specs.Listing.{Listing, addresses_in}
use Rattle.addresses.specs.declared.fault.AddressFault.{AddressFault}
use Rattle.addresses.specs.declared.fault.AddressFault.TheVariants.{Memory}
use Rattle.address_batch.specs.Lines.{lines_of_all}
use Rattle.tl_segments.specs.County.{CountyParts}

-- the file has these addresses and no fault
abbrev pub AreAddressesOf : List ℕ → List AddressParts → Type 0
AreAddressesOf file addresses = addresses_in file ≡ Ok (record { addresses = addresses; fault = None })

-- the fault of a file's header or of the record after its addresses, if there is one
abbrev pub fault_of : Result Listing AddressFault → Option AddressFault
fault_of (Ok listing) = listing.fault
fault_of (Err fault) = Some fault

-- the file of addresses has this fault
abbrev pub IsFaultOf : List ℕ → AddressFault → Type 0
IsFaultOf file fault = fault_of (addresses_in file) ≡ Some fault

-- why not all of a file's addresses are read: the file's fault, or an allocation failed
abbrev pub IsAddressesFault : List ℕ → AddressFault → Type 0
IsAddressesFault file Memory = ⊤
IsAddressesFault file fault = IsFaultOf file fault

-- the header and the lines of each address of the file, which has no fault, in counties with these codes
pub record IsOutputOf (file : List ℕ) (codes : List (List ℕ)) (counties : List CountyParts) (text : List ℕ) : Type 0 where
  pub addresses : List AddressParts
  pub are_addresses : AreAddressesOf file addresses
  pub is_text : text ≡ lines_of_all codes counties addresses
