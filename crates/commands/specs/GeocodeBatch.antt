-- What `geocode-batch` writes, and why it is refused.
use Rattle.std.specs.Prelude.{◌≡◌, ◌⊎◌, ⊤, ℕ, Bool, true, false, List, ◌++◌, map, take, Option, Some, None, Result, Ok, Err}
use Rattle.std.specs.List.{AllZip, concat}
use Rattle.std.specs.Io.KnownBytes.{Keeps}
use Rattle.addresses.specs.Address.{AddressParts}
use Rattle.addresses.specs.AddressFault as address_fault
use Rattle.addresses.specs.Listing.{Listing, addresses_in}
use Rattle.addresses.specs.declared.fault.AddressFault.{AddressFault}
use Rattle.addresses.specs.declared.fault.AddressFault.TheVariants as fault
use Rattle.address_batch.specs.Lines.{header, lines_of}
use Rattle.address_batch.specs.ShapedLookup.{AreShapedLines}
use Rattle.refusals.specs.Refusal.{RefusalParts, memory}
use Rattle.counted_io.specs.ReaderWriter.{Writer}
use Rattle.counted_io.specs.Writing.{WritesText}
use Rattle.counted_io.specs.declared.writing.WriteFault.{WriteFault}
use Rattle.tl_segments.specs.County.{CountyParts}
use Rattle.commands.specs.Counties.{AreCountiesOf, HaveRefusedCounty, IsFileOfCounties}
use Rattle.commands.specs.declared.failure.Failure.{Failure}
use Rattle.commands.specs.declared.failure.Failure.TheVariants.{Refusal, Write}
use Rattle.commands.specs.declared.geocode_batch.GeocodeBatch.{GeocodeBatch}

-- the codes of the requested counties
abbrev pub codes_of : GeocodeBatch → List (List ℕ)
codes_of batch = map (λ code. code.now) batch.codes.items

-- this is the name of the file of addresses, or of a file that one of the counties is loaded from
abbrev pub IsFileOf : GeocodeBatch → List ℕ → Type 0
IsFileOf batch name =
    (name ≡ batch.addresses.now) ⊎ IsFileOfCounties batch.shape batch.«data».now (codes_of batch) name

-- the file has these addresses and no fault
abbrev pub AreAddressesOf : List ℕ → List AddressParts → Type 0
AreAddressesOf file addresses = addresses_in file ≡ Ok (record { addresses = addresses; fault = None })

-- the fault of a file's header or of the record after its addresses, if there is one
abbrev pub fault_of : Result Listing AddressFault → Option AddressFault
fault_of (Ok listing) = listing.fault
fault_of (Err fault) = Some fault

-- the file of addresses has this fault
abbrev pub IsFaultOf : List ℕ → AddressFault → Type 0
IsFaultOf file fault = fault_of (addresses_in file) ≡ Some fault

-- why not all of a file's addresses are read: the file's fault, or an allocation failed
abbrev pub IsAddressesFault : List ℕ → AddressFault → Type 0
IsAddressesFault file fault.Memory = ⊤
IsAddressesFault file fault = IsFaultOf file fault

-- the file of addresses, and the requested counties, with their shapes if places are along them; the files' bytes agree with what is known of them
pub record Inputs (batch : GeocodeBatch) (known : List ℕ → Option (List ℕ)) : Type 0 where
  pub file : List ℕ
  pub is_file : Keeps (known batch.addresses.now) (Some file)
  pub counties : List CountyParts
  pub are_counties : AreCountiesOf batch.shape known batch.«data».now (codes_of batch) counties

-- the lines of an address in counties with these codes: each match is in its place along the shape of its segment, or on the straight line between
-- its ends
abbrev pub AreLinesIn : Bool → List (List ℕ) → List CountyParts → AddressParts → List ℕ → Type 0
AreLinesIn true codes counties address lines = AreShapedLines codes counties address lines
AreLinesIn false codes counties address lines = lines ≡ lines_of codes counties address

-- the lines of an address in the counties
abbrev pub AreLinesOf : {batch : GeocodeBatch} {known : List ℕ → Option (List ℕ)} → Inputs batch known → AddressParts → List ℕ → Type 0
AreLinesOf {batch} inputs = AreLinesIn batch.shape (codes_of batch) inputs.counties

-- the header and the lines of each of these addresses, in order
pub record IsOutput (AreLines : AddressParts → List ℕ → Type 0) (addresses : List AddressParts) (text : List ℕ) : Type 0 where
  pub lines : List (List ℕ)
  pub are_lines : AllZip AreLines addresses lines
  pub is_text : text ≡ header ++ concat lines

-- the output for the first `count` addresses
abbrev pub IsOutputOfFirst : (AddressParts → List ℕ → Type 0) → List AddressParts → List ℕ → Type 0
IsOutputOfFirst AreLines addresses text = (count : ℕ) × IsOutput AreLines (take count addresses) text

-- the output for all addresses, or, if a write failed, for those up to the one in whose lines it failed
abbrev pub IsOutputUntil : Result (Unit {0}) WriteFault → (AddressParts → List ℕ → Type 0) → List AddressParts → List ℕ → Type 0
IsOutputUntil (Ok done) AreLines addresses text = IsOutput AreLines addresses text
IsOutputUntil (Err fault) AreLines addresses text = IsOutputOfFirst AreLines addresses text

-- The header and the lines of all addresses were written, completely or until the output failed.
pub record Writes (batch : GeocodeBatch) (known : List ℕ → Option (List ℕ)) (result : Result (Unit {0}) WriteFault)
    (out out' : Writer) : Type 0 where
  pub inputs : Inputs batch known
  pub addresses : List AddressParts
  pub are_addresses : AreAddressesOf inputs.file addresses
  pub text : List ℕ
  pub is_text : IsOutputUntil result (AreLinesOf inputs) addresses text
  pub written : WritesText text result out out'

-- the header and the lines of the first addresses were written
pub record WritesFirst (batch : GeocodeBatch) (known : List ℕ → Option (List ℕ)) (out out' : Writer) : Type 0 where
  pub inputs : Inputs batch known
  pub addresses : List AddressParts
  pub are_addresses : AreAddressesOf inputs.file addresses
  pub text : List ℕ
  pub is_text : IsOutputOfFirst (AreLinesOf inputs) addresses text
  pub written : WritesText text (Ok tt) out out'

-- the file of addresses is refused
pub record AreAddressesRefused (batch : GeocodeBatch) (known : List ℕ → Option (List ℕ)) (refusal : RefusalParts) : Type 0 where
  pub inputs : Inputs batch known
  pub fault : AddressFault
  pub is_fault : IsFaultOf inputs.file fault
  pub refused : refusal ≡ address_fault.refusal fault

-- Why `geocode-batch` is refused otherwise. One of the counties is refused, and nothing was written. Or an allocation failed, and
-- either nothing was written, or the header and the lines of the first few addresses.
pub data IsRefused (batch : GeocodeBatch) (known : List ℕ → Option (List ℕ)) (refusal : RefusalParts) (out out' : Writer) : Type 0 where
  of_county : HaveRefusedCounty batch.shape known batch.«data».now (codes_of batch) refusal → out' ≡ out → IsRefused batch known refusal out out'
  of_memory : refusal ≡ memory → (out' ≡ out) ⊎ WritesFirst batch known out out' → IsRefused batch known refusal out out'

-- Such a text was written, completely or until the output failed. Or an allocation failed, after what `WritesBefore` describes was written.
abbrev pub WritesUnlessMemory : (List ℕ → Type 0) → (Writer → Writer → Type 0) → Result (Unit {0}) Failure → Writer → Writer → Type 0
WritesUnlessMemory IsText WritesBefore (Ok done) out out' = (text : List ℕ) × IsText text × WritesText text (Ok done) out out'
WritesUnlessMemory IsText WritesBefore (Err (Write fault)) out out' = (text : List ℕ) × IsText text × WritesText text (Err fault) out out'
WritesUnlessMemory IsText WritesBefore (Err (Refusal refusal)) out out' = (refusal ≡ memory) × WritesBefore out out'
WritesUnlessMemory IsText WritesBefore (Err failure) out out' = ⊥

-- the output for all addresses was written, or that for the first ones until the output or an allocation failed
abbrev pub WritesBatch : (AddressParts → List ℕ → Type 0) → List AddressParts → Result (Unit {0}) Failure → Writer → Writer → Type 0
WritesBatch AreLines addresses (Ok done) out out' = (text : List ℕ) × IsOutput AreLines addresses text × WritesText text (Ok done) out out'
WritesBatch AreLines addresses (Err (Write fault)) out out' =
    (text : List ℕ) × IsOutputOfFirst AreLines addresses text × WritesText text (Err fault) out out'
WritesBatch AreLines addresses (Err (Refusal refusal)) out out' =
    (refusal ≡ memory) × (text : List ℕ) × IsOutputOfFirst AreLines addresses text × WritesText text (Ok tt) out out'
WritesBatch AreLines addresses (Err failure) out out' = ⊥
