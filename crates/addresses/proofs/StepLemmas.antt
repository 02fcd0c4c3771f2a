-- What a read with the reader of a file shows about the first text of the file.
use Rattle.std.proofs.Common.{◌≡◌, ◌∙◌, ◌≤◌, ℕ, length, arith, Bool, true, false, List, [], ◌∷◌, ◌++◌, Option, Some, None, Ok, Err, refl, sym, ap, inl}
use Rattle.std.specs.Prelude.{is_some, nat_lt}
use Rattle.std.specs.List.{list_all}
use Rattle.std.specs.Str.{is_utf8}
use Rattle.std.proofs.lemmas.Bool.{and_parts}
use Rattle.std.proofs.lemmas.Bool.Decides.{nat_tests}
use Rattle.std.proofs.lemmas.List.{append-nil}
use Rattle.csv.specs.Machine.{Read, next_record}
use Rattle.csv.specs.Records.{AllText}
use Rattle.csv.specs.Reading.{ExplainsRead, NextIs, ReadRecord, ReadsNext, default_config, pending_of, took_first}
use Rattle.csv.specs.declared.error.ErrorKind.{ErrorKind}
use Rattle.csv.specs.declared.error.ErrorKind.TheVariants as kind
use Rattle.csv.specs.declared.parser.State.TheVariants.{StartRecord}
use Rattle.csv.specs.declared.reader.Reader.{Reader}
use Rattle.addresses.specs.InStep.{IsInStep}
use Rattle.addresses.specs.Record.{Fields, IsRecordRead, fault_of, fields_in, has_more, record_in}
use Rattle.addresses.specs.RecordText.{is_open}
use Rattle.addresses.specs.Regular.{is_line_end}
use Rattle.addresses.specs.TextReader.{IsTextReader, Marked, marked_left}
use Rattle.addresses.specs.WholeRecord.{IsNoRecord, IsWholeRecord}
use Rattle.addresses.specs.declared.record.TheConstants.{MAX_RECORD_LENGTH}
use Rattle.addresses.proofs.ReadLemmas.{all-utf8, not-all-utf8}

no-record : (text file : List ℕ) → list_all is_line_end text ≡ true
    → next_record default_config StartRecord [] [] (text ++ file) ≡ next_record default_config StartRecord [] [] file
unfolding next_record
no-record [] file ends = refl
no-record (byte ∷ text) file ends =
    let both = and_parts (is_line_end byte) (list_all is_line_end text) ends in
    rw both.0 (no-record text file both.1)

pub blank : (text : List ℕ) → list_all is_line_end text ≡ true → IsNoRecord text
blank text ends = λ file. no-record text file ends

nothing : next_record default_config StartRecord [] [] [] ≡ None
unfolding next_record
nothing = refl

pub no-fields : (text : List ℕ) → IsNoRecord text → fields_in text ≡ Ok None
no-fields text none =
    let is : next_record default_config StartRecord [] [] text ≡ None =
    ap (next_record default_config StartRecord [] []) (sym (append-nil text)) ∙ none [] ∙ nothing in
    rw is refl

-- the record of the text itself, and that nothing follows it there
whole-read : (text : List ℕ) → (whole : IsWholeRecord text)
    → next_record default_config StartRecord [] [] text ≡ Some (whole.fields, whole.state, whole.left ++ [])
whole-read text whole = ap (next_record default_config StartRecord [] []) (sym (append-nil text)) ∙ whole.reads []

whole-only : (text : List ℕ) → (whole : IsWholeRecord text) → has_more (whole.fields, whole.state, whole.left ++ []) ≡ false
whole-only text whole = ap is_some (whole.skips [] ∙ nothing)

-- the reader is before a text that is one record, whatever follows it
pub record IsBefore (file text rest : List ℕ) (reader : Reader Marked) : Type 0 where
  pub whole : IsWholeRecord text
  pub split : file ≡ text ++ rest
  pub in_step : IsInStep file reader

-- the read consumed the text, and what is left of it is skipped
record IsTaken {text : List ℕ} (whole : IsWholeRecord text) (rest : List ℕ) (after : Reader Marked) (left : Option (List ℕ)) (found : Bool)
    (fields : Fields) : Type 0 where
  pub is_found : found ≡ true
  pub are_fields : fields ≡ whole.fields
  pub is_state : after.state ≡ whole.state
  pub is_left : left ≡ Some (whole.left ++ rest)

is-taken : {text rest : List ℕ} (whole : IsWholeRecord text) (after : Reader Marked) (left : List ℕ) {found : Bool} {fields : Fields}
    (next : Option Read) → next ≡ Some (whole.fields, whole.state, whole.left ++ rest) → NextIs next found fields after.state left
    → IsTaken whole rest after (Some left) found fields
is-taken whole after left None read is = cc read
is-taken {rest = rest} whole after left (Some next) read is =
    let same : next ≡ (whole.fields, whole.state, whole.left ++ rest) = cc read in
    record {
      is_found = is.0;
      are_fields = is.1 ∙ ap (λ (r : Read). r.0) same;
      is_state = is.2 ∙ ap (λ (r : Read). r.1) same;
      is_left = ap Some (is.3 ∙ ap (λ (r : Read). r.2) same);
    }

module _ {file text rest : List ℕ} {a : Reader Marked} (before : IsBefore file text rest a) where
  -- what the reader reads next
  reads-whole : next_record default_config a.state [] [] before.in_step.left
      ≡ Some (before.whole.fields, before.whole.state, before.whole.left ++ rest)
  reads-whole = before.in_step.next ∙ ap (next_record default_config StartRecord [] []) before.split ∙ before.whole.reads rest

  taken : (after : Reader Marked) (left : Option (List ℕ)) (found : Bool) (fields : Fields)
      → ReadsNext default_config a.state (Some before.in_step.left) left found fields after.state
      → IsTaken before.whole rest after left found fields
  taken after None found fields reads = absurd reads
  taken after (Some left) found fields reads =
      is-taken before.whole after left (next_record default_config a.state [] [] before.in_step.left) reads-whole reads

  was-taken : (b : Reader Marked) (found : Bool) (fields : Fields) → ReadRecord marked_left a b found fields
      → IsTaken before.whole rest b (pending_of (marked_left b.rdr) b) found fields
  was-taken b found fields reads =
      taken b (pending_of (marked_left b.rdr) b) found fields (rw (before.in_step.config, before.in_step.source) at reads.0)

  -- the record of the text was found
  pub as-whole : (line : ℕ) (b : Reader Marked) (found : Bool) (fields : Fields) → ReadRecord marked_left a b found fields → AllText fields
      → IsRecordRead line fields (fields_in text) (Ok found)
  as-whole line b found fields reads utf8 =
      let is = was-taken b found fields reads in
      let whole = before.whole in
      let all : list_all is_utf8 whole.fields ≡ true = rw (sym is.are_fields) (all-utf8 fields utf8) in
      rw (is.is_found, is.are_fields, whole-read text whole, all, whole-only text whole) refl

  -- the reader is then before the rest of the file
  pub after-whole : (b : Reader Marked) (found : Bool) (fields : Fields) → ReadRecord marked_left a b found fields → took_first b ≡ true
      → IsInStep rest b
  after-whole b found fields reads began =
      let is = was-taken b found fields reads in
      record {
        config = reads.2 ∙ before.in_step.config;
        plain = reads.3 ∙ before.in_step.plain;
        ready = inl began;
        left = before.whole.left ++ rest;
        source = rw reads.1 is.is_left;
        next = rw is.is_state (before.whole.skips rest);
      }

  -- an error is caused by the text or by running out of memory
  pub as-failed : (line : ℕ) (b : Reader Marked) (fields : Fields) (error : ErrorKind) → ExplainsRead marked_left a b true error
      → IsRecordRead line fields (fields_in text) (Err (fault_of line error))
  as-failed line b fields (kind.Utf8 pos err) why =
      let (same, read, took, mixed) = why in
      let is = taken b (pending_of (marked_left b.rdr) b) true read (rw (before.in_step.config, before.in_step.source) at took) in
      let some : list_all is_utf8 before.whole.fields ≡ false = rw (sym is.are_fields) (not-all-utf8 read mixed) in
      (refl, rw (whole-read text before.whole, some) refl)
  as-failed line b fields (kind.Io e) why = tt
  as-failed line b fields kind.OutOfMemory why = tt
  as-failed line b fields (kind.UnequalLengths pos expected len) why = tt
  as-failed line b fields (kind.Serialize e) why = tt
  as-failed line b fields (kind.Deserialize pos err) why = tt

-- a text without a record is skipped
pub after-blank : (file text rest : List ℕ) (reader : Reader Marked) → file ≡ text ++ rest → IsNoRecord text → IsInStep file reader
    → IsInStep rest reader
after-blank file text rest reader split none before = record {
  config = before.config;
  plain = before.plain;
  ready = before.ready;
  left = before.left;
  source = before.source;
  next = before.next ∙ ap (next_record default_config StartRecord [] []) split ∙ none rest;
}

pub no-record-in : (text : List ℕ) → is_open text ≡ false → length text ≤ MAX_RECORD_LENGTH → IsNoRecord text → record_in text ≡ Ok None
no-record-in text closed few none =
    let short : nat_lt MAX_RECORD_LENGTH (length text) ≡ false = grind (arith, nat_tests) in
    rw (closed, short, no-fields text none) refl

-- a new reader is before its text
pub new-in-step : (text : List ℕ) (reader : Reader Marked) → IsTextReader text reader → IsInStep text reader
new-in-step text reader fresh = record {
  config = fresh.config;
  plain = fresh.plain;
  ready = fresh.ready;
  left = text;
  source = fresh.source;
  next = ap (λ state. next_record default_config state [] [] text) fresh.state;
}
