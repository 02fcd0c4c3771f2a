-- The records of a file, each with the line in which it begins, and the fault that ends them, if any.
use Rattle.std.specs.Prelude.{◌≡◌, ⊤, ℕ, ◌+◌, List, [], ◌∷◌, Option, Some, None, Result, Ok, Err}
use Rattle.csv.specs.Reading.{strip_bom}
use Rattle.addresses.specs.Record.{Fields, record_in}
use Rattle.addresses.specs.RecordText.{line_feeds, record_texts}
use Rattle.addresses.specs.declared.fault.AddressFault.{AddressFault}
use Rattle.addresses.specs.declared.fault.AddressFault.TheVariants.{NoHeader, At, Memory}
use Rattle.addresses.specs.declared.fault.AddressFaultKind.{AddressFaultKind}

-- a record's line, counted from 1, and its fields
pub record RecordParts : Type 0 where
  pub line : ℕ
  pub fields : Fields

-- the records that can be read, and the fault of the one after them, if any
pub record Reading : Type 0 where
  pub records : List RecordParts
  pub fault : Option AddressFault

abbrev pub at_end : Reading
at_end = record { records = []; fault = None }

abbrev pub failing : AddressFault → Reading
failing fault = record { records = []; fault = Some fault }

abbrev pub preceded : RecordParts → Reading → Reading
preceded first later = record { records = first ∷ later.records; fault = later.fault }

-- the contents of a text in this line, followed by the later records; nothing follows a flaw
abbrev pub followed : ℕ → Result (Option Fields) AddressFaultKind → Reading → Reading
followed line (Ok None) later = later
followed line (Ok (Some fields)) later = preceded (record { line = line; fields = fields }) later
followed line (Err flaw) later = failing (At line flaw)

-- the records of texts, the first of which begins in this line
unfoldable pub reading_from : ℕ → List (List ℕ) → Reading
reading_from line [] = at_end
reading_from line (text ∷ texts) = followed line (record_in text) (reading_from (line + line_feeds text) texts)

-- the records of a file, after its byte order mark, if any
abbrev pub reading_of : List ℕ → Reading
reading_of file = reading_from 1 (record_texts (strip_bom file))

-- The result of reading the next record: its line, with these fields, leaving the later records; nothing at the end; or the next fault. Otherwise an
-- allocation failed.
abbrev pub IsNextRead : Result (Option ℕ) AddressFault → Fields → Reading → Reading → Type 0
IsNextRead (Ok (Some line)) fields old new = old ≡ preceded (record { line = line; fields = fields }) new
IsNextRead (Ok None) fields old new = (old ≡ at_end) × (new ≡ at_end)
IsNextRead (Err (At line flaw)) fields old new = old ≡ failing (At line flaw)
IsNextRead (Err NoHeader) fields old new = ⊥
IsNextRead (Err Memory) fields old new = ⊤
