-- The contents of a record's text: its fields, as the state machine of the crate csv reads them; a flaw; or no record, as in an empty line.
use Rattle.std.specs.Prelude.{◌≡◌, ⊤, ℕ, Bool, true, false, not, nat_lt, if◌then◌else◌, List, [], length, Option, Some, None, is_some, Result, Ok, Err}
use Rattle.std.specs.List.{list_all}
use Rattle.std.specs.Str.{is_utf8}
use Rattle.csv.specs.Machine.{Read, next_record}
use Rattle.csv.specs.Reading.{default_config}
use Rattle.csv.specs.declared.error.ErrorKind.{ErrorKind}
use Rattle.csv.specs.declared.error.ErrorKind.TheVariants as kind
use Rattle.csv.specs.declared.parser.State.TheVariants.{StartRecord}
use Rattle.addresses.specs.RecordText.{is_open}
use Rattle.addresses.specs.declared.fault.AddressFault.{AddressFault}
use Rattle.addresses.specs.declared.fault.AddressFault.TheVariants.{NoHeader, At, Memory}
use Rattle.addresses.specs.declared.fault.AddressFaultKind.{AddressFaultKind}
use Rattle.addresses.specs.declared.fault.AddressFaultKind.TheVariants.{NotUtf8, OpenQuote, LineTooLong, NotOneRecord}
use Rattle.addresses.specs.declared.record.TheConstants.{MAX_RECORD_LENGTH}

abbrev pub Fields : Type 0
Fields = List (List ℕ)

-- whether the text has another record after this one
abbrev pub has_more : Read → Bool
has_more read = is_some (next_record default_config read.1 [] [] read.2)

-- the fields of a text's first record, if it is the only one
abbrev pub only_fields : Option Read → Result (Option Fields) AddressFaultKind
only_fields None = Ok None
only_fields (Some read) =
    if not (list_all is_utf8 read.0) then Err NotUtf8 else (if has_more read then Err NotOneRecord else Ok (Some read.0))

abbrev pub fields_in : List ℕ → Result (Option Fields) AddressFaultKind
fields_in text = only_fields (next_record default_config StartRecord [] [] text)

abbrev pub record_in : List ℕ → Result (Option Fields) AddressFaultKind
record_in text =
    if is_open text then Err OpenQuote else (if nat_lt MAX_RECORD_LENGTH (length text) then Err LineTooLong else fields_in text)

-- Reading a record that begins in this line returns the contents of its text, unless an allocation fails.
abbrev pub IsRecordRead : ℕ → Fields → Result (Option Fields) AddressFaultKind → Result Bool AddressFault → Type 0
IsRecordRead line fields held (Ok true) = held ≡ Ok (Some fields)
IsRecordRead line fields held (Ok false) = held ≡ Ok None
IsRecordRead line fields held (Err (At at flaw)) = (at ≡ line) × (held ≡ Err flaw)
IsRecordRead line fields held (Err NoHeader) = ⊥
IsRecordRead line fields held (Err Memory) = ⊤

-- the fault that corresponds to an error of the crate csv
abbrev pub fault_of : ℕ → ErrorKind → AddressFault
fault_of line (kind.Utf8 pos err) = At line NotUtf8
fault_of line (kind.Io e) = Memory
fault_of line (kind.UnequalLengths pos expected len) = Memory
fault_of line kind.OutOfMemory = Memory
fault_of line (kind.Serialize text) = Memory
fault_of line (kind.Deserialize pos err) = Memory
