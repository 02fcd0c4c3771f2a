-- Reading on after the first text of a file.
use Rattle.std.proofs.Common.{◌≡◌, ℕ, ◌+◌, List, [], ◌∷◌, Ok, Err, true, false, length, refl}
use Rattle.addresses.specs.Reading.{IsNextRead, Reading, at_end, followed, preceded, reading_from}
use Rattle.addresses.specs.Record.{Fields, IsRecordRead, record_in}
use Rattle.addresses.specs.RecordText.{line_feeds, record_texts, texts_from}
use Rattle.addresses.specs.declared.fault.AddressFault.{AddressFault}
use Rattle.addresses.specs.declared.fault.AddressFault.TheVariants.{NoHeader, At, Memory}

pub next-step : (line : ℕ) (file text rest : List ℕ) → record_texts file ≡ text ∷ record_texts rest
    → reading_from line (record_texts file) ≡ followed line (record_in text) (reading_from (line + line_feeds text) (record_texts rest))
unfolding reading_from
next-step line file text rest texts = rw texts refl

pub no-bytes : (file : List ℕ) → length file ≡ 0 → file ≡ []
no-bytes [] none = refl
no-bytes (byte ∷ file) none = cc none

pub nothing-left : (line : ℕ) (file : List ℕ) → file ≡ [] → reading_from line (record_texts file) ≡ at_end
unfolding reading_from texts_from
nothing-left line file empty = rw empty refl

-- a record's text couldn't be read; the later records are left
pub record IsFailed (line : ℕ) (fields : Fields) (text : List ℕ) (old : Reading) (fault : AddressFault) : Type 0 where
  pub later : Reading
  pub is : IsRecordRead line fields (record_in text) (Err fault)
  pub from : old ≡ followed line (record_in text) later

pub failed : (line : ℕ) (fields : Fields) (text : List ℕ) (old new : Reading) (fault : AddressFault) → IsFailed line fields text old fault
    → IsNextRead (Err fault) fields old new
failed line fields text old new (At at flaw) failure = rw failure.is.0 (rw failure.is.1 at failure.from)
failed line fields text old new NoHeader failure = absurd failure.is
failed line fields text old new Memory failure = tt

-- the text has a record or it has none
pub found : (line : ℕ) (fields : Fields) (text : List ℕ) (old later : Reading) → IsRecordRead line fields (record_in text) (Ok true)
    → old ≡ followed line (record_in text) later → old ≡ preceded (record { line = line; fields = fields }) later
found line fields text old later is from = rw is at from

pub passed : (line : ℕ) (fields : Fields) (text : List ℕ) (old later : Reading) → IsRecordRead line fields (record_in text) (Ok false)
    → old ≡ followed line (record_in text) later → old ≡ later
passed line fields text old later is from = rw is at from
