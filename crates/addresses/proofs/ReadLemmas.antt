-- What two reads with a new reader show about its text.
use Rattle.std.proofs.Common.{◌≡◌, ◌∙◌, ℕ, Bool, true, false, List, [], ◌∷◌, Option, Some, None, Ok, Err, refl, sym, inl, inr}
use Rattle.std.specs.Prelude.{is_some}
use Rattle.std.specs.List.{list_all}
use Rattle.std.specs.Str.{is_utf8}
use Rattle.std.proofs.lemmas.Bool.{and_parts, cases_Bool}
use Rattle.std.proofs.lemmas.Str.{IsUtf8-from_is_utf8, is_utf8-from_IsUtf8}
use Rattle.csv.specs.Machine.{Read, next_record}
use Rattle.csv.specs.Records.{AllText}
use Rattle.csv.specs.Reading.{ExplainsRead, NextIs, ReadRecord, ReadsNext, TookRecord, default_config, pending_of, source_of}
use Rattle.csv.specs.declared.parser.Config.{Config}
use Rattle.csv.specs.declared.parser.State.{State}
use Rattle.csv.specs.declared.parser.State.TheVariants.{StartRecord}
use Rattle.csv.specs.declared.error.ErrorKind.{ErrorKind}
use Rattle.csv.specs.declared.error.ErrorKind.TheVariants as kind
use Rattle.csv.specs.declared.reader.Reader.{Reader}
use Rattle.addresses.specs.Record.{IsRecordRead, Fields, fault_of, fields_in, has_more}
use Rattle.addresses.specs.TextReader.{IsTextReader, Marked, marked_left}
use Rattle.addresses.specs.declared.fault.AddressFaultKind.TheVariants.{NotOneRecord, NotUtf8}

pub all-utf8 : (fields : List (List ℕ)) → AllText fields → list_all is_utf8 fields ≡ true
unfolding AllText
all-utf8 [] text = refl
all-utf8 (field ∷ fields) text = rw (is_utf8-from_IsUtf8 field text.0, all-utf8 fields text.1) refl

all-text : (fields : List (List ℕ)) → list_all is_utf8 fields ≡ true → AllText fields
unfolding AllText
all-text [] all = tt
all-text (field ∷ fields) all =
    let parts = and_parts (is_utf8 field) (list_all is_utf8 fields) all in
    (IsUtf8-from_is_utf8 field parts.0, all-text fields parts.1)

pub not-all-utf8 : (fields : List (List ℕ)) → ¬ (AllText fields) → list_all is_utf8 fields ≡ false
not-all-utf8 fields mixed = elim (cases_Bool (list_all is_utf8 fields)) [ inl all ↦ absurd (mixed (all-text fields all)) | inr some ↦ some ]

took : (next : Option Read) (fields : List (List ℕ)) (state : State) (rest : List ℕ) → NextIs next true fields state rest
    → next ≡ Some (fields, state, rest)
took None fields state rest is = cc is
took (Some read) fields state rest is = rw (is.1, is.2, is.3) refl

-- the record that was read, and what remains
taken : (config : Config) (before after : State) (text : List ℕ) (left : Option (List ℕ)) (fields : List (List ℕ))
    → ReadsNext config before (Some text) left true fields after
    → (rest : List ℕ) × (left ≡ Some rest) × (next_record config before [] [] text ≡ Some (fields, after, rest))
taken config before after text None fields reads = absurd reads
taken config before after text (Some rest) fields reads = (rest, refl, took (next_record config before [] [] text) fields after rest reads)

is-found : (next : Option Read) (found : Bool) (fields : List (List ℕ)) (state : State) (rest : List ℕ)
    → NextIs next found fields state rest → is_some next ≡ found
is-found None found fields state rest is = sym is
is-found (Some read) found fields state rest is = sym is.0

found-next : (config : Config) (before after : State) (text : List ℕ) (left : Option (List ℕ)) (found : Bool) (fields : List (List ℕ))
    → ReadsNext config before (Some text) left found fields after → is_some (next_record config before [] [] text) ≡ found
found-next config before after text None found fields reads = absurd reads
found-next config before after text (Some rest) found fields reads =
    is-found (next_record config before [] [] text) found fields after rest reads

none-is : (next : Option Read) → is_some next ≡ false → next ≡ None
none-is None none = refl
none-is (Some read) none = cc none

-- there is no record
pub read-none : (a b : Reader Marked) (text : List ℕ) (fields : Fields) → IsTextReader text a → ReadRecord marked_left a b false fields
    → fields_in text ≡ Ok None
read-none a b text fields fresh reads =
    let next = rw (fresh.config, fresh.state, fresh.source) at reads.0 in
    rw (none-is _ (found-next default_config StartRecord b.state text (pending_of (marked_left b.rdr) b) false fields next)) refl

-- the first record's fields aren't all UTF-8
pub read-not-utf8 : (a b : Reader Marked) (text : List ℕ) (fields : Fields) → IsTextReader text a → TookRecord marked_left a b fields
    → ¬ (AllText fields) → fields_in text ≡ Err NotUtf8
read-not-utf8 a b text fields fresh reads mixed =
    let next = rw (fresh.config, fresh.state, fresh.source) at reads in
    let read = taken default_config StartRecord b.state text (pending_of (marked_left b.rdr) b) fields next in
    rw (read.2, not-all-utf8 fields mixed) refl

-- the fields of the first record are UTF-8, and a second read found another record or none
pub record ReadTwice (text : List ℕ) (fields : Fields) (found : Bool) : Type 0 where
  pub a : Reader Marked
  pub b : Reader Marked
  pub c : Reader Marked
  pub others : Fields
  pub fresh : IsTextReader text a
  pub reads : ReadRecord marked_left a b true fields
  pub utf8 : AllText fields
  pub more : ReadRecord marked_left b c found others

more-found : (text : List ℕ) (fields : Fields) (found : Bool) (read : ReadTwice text fields found)
    → (rest : List ℕ) × (next_record default_config StartRecord [] [] text ≡ Some (fields, read.b.state, rest))
    × (has_more (fields, read.b.state, rest) ≡ found)
more-found text fields found read =
    let b = read.b in
    let c = read.c in
    let next = rw (read.fresh.config, read.fresh.state, read.fresh.source) at read.reads.0 in
    let first = taken default_config StartRecord b.state text (pending_of (marked_left b.rdr) b) fields next in
    let source : source_of marked_left b ≡ Some first.0 = rw read.reads.1 first.1 in
    let second = rw (read.reads.2 ∙ read.fresh.config, source) at read.more.0 in
    (first.0, first.2, found-next default_config b.state c.state first.0 (pending_of (marked_left c.rdr) c) found read.others second)

pub read-one : (text : List ℕ) (fields : Fields) → ReadTwice text fields false → fields_in text ≡ Ok (Some fields)
read-one text fields read =
    let found = more-found text fields false read in
    rw (found.1, all-utf8 fields read.utf8, found.2) refl

pub read-more : (text : List ℕ) (fields : Fields) → ReadTwice text fields true → fields_in text ≡ Err NotOneRecord
read-more text fields read =
    let found = more-found text fields true read in
    rw (found.1, all-utf8 fields read.utf8, found.2) refl

-- an error of the first read is caused by its text or by running out of memory
pub as-read : (line : ℕ) (a b : Reader Marked) (text : List ℕ) (fields : Fields) (error : ErrorKind) → IsTextReader text a
    → ExplainsRead marked_left a b true error → IsRecordRead line fields (fields_in text) (Err (fault_of line error))
as-read line a b text fields (kind.Utf8 pos err) fresh why =
    let (same, read, took, mixed) = why in
    (refl, read-not-utf8 a b text read fresh took mixed)
as-read line a b text fields (kind.Io e) fresh why = tt
as-read line a b text fields kind.OutOfMemory fresh why = tt
as-read line a b text fields (kind.UnequalLengths pos expected len) fresh why = tt
as-read line a b text fields (kind.Serialize e) fresh why = tt
as-read line a b text fields (kind.Deserialize pos err) fresh why = tt
