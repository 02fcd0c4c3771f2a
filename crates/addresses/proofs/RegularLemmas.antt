-- A text with quotation marks only around cells and doubled within them is one record.
use Rattle.std.proofs.Common.{◌≡◌, ◌≢◌, ◌∙◌, ◌+◌, ◌<◌, ◌≤◌, ℕ, Bool, true, false, ◌||◌, List, [], ◌∷◌, ◌++◌, Option, Some, refl, sym, ap, subst, inl}
use Rattle.std.proofs.Common.{inr, arith, append_assoc, length, get_or, drop, drop-cons, add-one}
use Rattle.std.specs.Prelude.{◌==◌, if◌then◌else◌}
use Rattle.std.specs.Option.{option_and_then}
use Rattle.std.proofs.lemmas.Bool.{cases_Bool}
use Rattle.std.proofs.lemmas.Bool.Decides.{nat_tests}
use Rattle.std.proofs.lemmas.List.{drop_all}
use Rattle.std.proofs.lemmas.Option.{option_and_then_some}
use Rattle.csv.specs.Machine.{field_after, fields_after, in_field, is_end, next_record, start_field, step}
use Rattle.csv.specs.Reading.{default_config}
use Rattle.csv.specs.declared.parser.Action.{Action}
use Rattle.csv.specs.declared.parser.State.{State}
use Rattle.csv.specs.declared.parser.State.TheVariants as st
use Rattle.addresses.specs.Record.{Fields}
use Rattle.addresses.specs.Regular.{EndsLine, after, after_plain, is_line_end}
use Rattle.addresses.specs.WholeRecord.{IsWholeRecord, Skips}
use Rattle.addresses.specs.declared.regular.RecordPart.{RecordPart}
use Rattle.addresses.specs.declared.regular.RecordPart.TheVariants.{Start, Plain, Quoted, Closed}

-- the part after some bytes, if there is one
unfoldable pub walk : List ℕ → RecordPart → Option RecordPart
walk [] part = Some part
walk (byte ∷ bytes) part = option_and_then (walk bytes) (after part byte)

-- the state of the crate csv's machine in a part
abbrev pub state_of : RecordPart → State
state_of Start = st.StartField
state_of Plain = st.InField
state_of Quoted = st.InQuoted
state_of Closed = st.AfterQuote

-- the machine moves from part to part, without ending the record
abbrev Steps : State × Action → RecordPart → Type 0
Steps stepped next = (stepped.0 ≡ state_of next) × (is_end stepped.1 ≡ false)

steps-plain : (next : RecordPart) (byte : ℕ) → after_plain byte ≡ Some next → Steps (in_field default_config byte) next
steps-plain next byte is = elim (cases_Bool (byte == 44)) [
  | inl comma ↦ let same : Start ≡ next = cc (rw comma at is) in rw (comma, sym same) (refl, refl)
  | inr other ↦ elim (cases_Bool ((byte == 34) || is_line_end byte)) [
    | inl bad ↦ cc (rw (other, bad) at is)
    | inr fine ↦
        let same : Plain ≡ next = cc (rw (other, fine) at is) in
        let ends : is_line_end byte ≡ false = or-right (byte == 34) (is_line_end byte) fine in
        rw (other, ends, sym same) (refl, refl)
  ]
]
  where
    or-right : (a b : Bool) → (a || b) ≡ false → b ≡ false
    or-right true b none = cc none
    or-right false b none = none

otherwise : {A : Type 0} (test : Bool) (one other : A) → test ≡ false → (if test then one else other) ≡ other
otherwise test one other fails = rw fails refl

steps : (part next : RecordPart) (byte : ℕ) → after part byte ≡ Some next → Steps (step default_config (state_of part) byte) next
steps Start next byte is = elim (cases_Bool (byte == 34)) [
  | inl mark ↦ let same : Quoted ≡ next = cc (rw mark at is) in rw (mark, sym same) (refl, refl)
  | inr other ↦
      let stepped : start_field default_config byte ≡ in_field default_config byte = otherwise (byte == 34) _ _ other in
      subst (λ stepped. Steps stepped next) (sym stepped)
      (steps-plain next byte (sym (otherwise (byte == 34) (Some Quoted) (after_plain byte) other) ∙ is))
]
steps Plain next byte is = steps-plain next byte is
steps Quoted next byte is = elim (cases_Bool (byte == 34)) [
  | inl mark ↦ let same : Closed ≡ next = cc (rw mark at is) in rw (mark, sym same) (refl, refl)
  | inr other ↦ let same : Quoted ≡ next = cc (rw other at is) in rw (other, sym same) (refl, refl)
]
steps Closed next byte is = elim (cases_Bool (byte == 34)) [
  | inl mark ↦ let same : Quoted ≡ next = cc (rw mark at is) in rw (mark, sym same) (refl, refl)
  | inr other ↦ elim (cases_Bool (byte == 44)) [
    | inl comma ↦ let same : Start ≡ next = cc (rw (other, comma) at is) in rw (other, comma, sym same) (refl, refl)
    | inr more ↦ cc (rw (other, more) at is)
  ]
]

-- reading these bytes leads the machine to a state, whatever follows them
record Reads (state : State) (fields : Fields) (field bytes : List ℕ) (after : State) : Type 0 where
  now : Fields
  cell : List ℕ
  reads : (file : List ℕ) → next_record default_config state fields field (bytes ++ file) ≡ next_record default_config after now cell file

one-step : (state after : State) (byte : ℕ) (fields : Fields) (field bytes : List ℕ) → is_end (step default_config state byte).1 ≡ false
    → next_record default_config state fields field (byte ∷ bytes)
    ≡ next_record default_config (step default_config state byte).0 (fields_after (step default_config state byte).1 fields field)
    (field_after (step default_config state byte).1 byte field) bytes
unfolding next_record
one-step state after byte fields field bytes next_part = rw next_part refl

walks : (bytes : List ℕ) (part next : RecordPart) → walk bytes part ≡ Some next → (fields : Fields) (field : List ℕ)
    → Reads (state_of part) fields field bytes (state_of next)
unfolding walk
walks [] part next is fields field = record {
  now = fields;
  cell = field;
  reads = λ file. ap (λ p. next_record default_config (state_of p) fields field file) (cc is);
}
walks (byte ∷ bytes) part next is fields field =
    option_and_then_some (walk bytes) (after part byte) next is (λ middle next_part later.
    let stepped = steps part middle byte next_part in
    let rest = walks bytes middle next later (fields_after (step default_config (state_of part) byte).1 fields field)
    (field_after (step default_config (state_of part) byte).1 byte field) in
    record {
      now = rest.now;
      cell = rest.cell;
      reads = λ file. one-step (state_of part) (state_of middle) byte fields field (bytes ++ file) stepped.1
          ∙ rw (sym stepped.0) at (rest.reads file);
    })

-- a byte that is in place at the start of a cell is no line end
no-end : (byte : ℕ) (next : RecordPart) → after Start byte ≡ Some next → is_line_end byte ≡ false
no-end byte next is = elim (cases_Bool (byte == 34)) [
  | inl mark ↦ let same : byte ≡ 34 = grind (arith, nat_tests) in rw same refl
  | inr other ↦ elim (cases_Bool (byte == 44)) [
    | inl comma ↦ let same : byte ≡ 44 = grind (arith, nat_tests) in rw same refl
    | inr plain ↦ elim (cases_Bool (is_line_end byte)) [ inl ends ↦ cc (rw (other, plain, ends) at is) | inr none ↦ none ]
  ]
]

begins : (byte : ℕ) (bytes : List ℕ) → is_line_end byte ≡ false
    → next_record default_config st.StartRecord [] [] (byte ∷ bytes) ≡ next_record default_config st.StartField [] [] (byte ∷ bytes)
unfolding next_record
begins byte bytes next_part = rw next_part refl

-- a line end outside quotation marks ends the record
ends : (part : RecordPart) → part ≢ Quoted → (fields : Fields) (cell file : List ℕ)
    → next_record default_config (state_of part) fields cell (10 ∷ file) ≡ Some (fields ++ cell ∷ [], st.StartRecord, file)
unfolding next_record
ends Start outside fields cell file = refl
ends Plain outside fields cell file = refl
ends Quoted outside fields cell file = absurd (outside refl)
ends Closed outside fields cell file = refl

ends-return : (part : RecordPart) → part ≢ Quoted → (fields : Fields) (cell file : List ℕ)
    → next_record default_config (state_of part) fields cell (13 ∷ file) ≡ Some (fields ++ cell ∷ [], st.AfterCr, file)
unfolding next_record
ends-return Start outside fields cell file = refl
ends-return Plain outside fields cell file = refl
ends-return Quoted outside fields cell file = absurd (outside refl)
ends-return Closed outside fields cell file = refl

after-return : Skips st.AfterCr (10 ∷ [])
unfolding next_record
after-return file = refl

-- a line of cells, without its line end
pub record IsLine (line : List ℕ) (last : RecordPart) : Type 0 where
  pub some : line ≢ []
  pub walked : walk line Start ≡ Some last
  pub outside : last ≢ Quoted

first-in-line : (byte : ℕ) (bytes : List ℕ) (last : RecordPart) → walk (byte ∷ bytes) Start ≡ Some last
    → is_line_end byte ≡ false
unfolding walk
first-in-line byte bytes last walked =
    option_and_then_some (walk bytes) (after Start byte) last walked (λ middle next_part later. no-end byte middle next_part)

line-reads : (line : List ℕ) (last : RecordPart) → IsLine line last → Reads st.StartRecord [] [] line (state_of last)
line-reads [] last is = absurd (is.some refl)
line-reads (byte ∷ bytes) last is =
    let walked = is.walked in
    let rest = walks (byte ∷ bytes) Start last walked [] [] in
    record {
      now = rest.now;
      cell = rest.cell;
      reads = λ file. begins byte (bytes ++ file) (first-in-line byte bytes last walked) ∙ rest.reads file;
    }

pub whole-line : (line text : List ℕ) (last : RecordPart) → IsLine line last → EndsLine line text → IsWholeRecord text
whole-line line text last is (inl feed) =
    let read = line-reads line last is in
    rw feed (record {
      fields = read.now ++ read.cell ∷ [];
      state = st.StartRecord;
      left = [];
      reads = λ file. rw (append_assoc line (10 ∷ []) file) (read.reads (10 ∷ file) ∙ ends last is.outside read.now read.cell file);
      skips = λ file. refl;
    })
whole-line line text last is (inr return) =
    let read = line-reads line last is in
    rw return (record {
      fields = read.now ++ read.cell ∷ [];
      state = st.AfterCr;
      left = 10 ∷ [];
      reads = λ file. rw (append_assoc line (13 ∷ 10 ∷ []) file)
          (read.reads (13 ∷ 10 ∷ file) ∙ ends-return last is.outside read.now read.cell (10 ∷ file));
      skips = after-return;
    })

pub walk-next : (bytes : List ℕ) (at : ℕ) (part next : RecordPart) → at < length bytes → after part (get_or bytes at 0) ≡ Some next
    → walk (drop at bytes) part ≡ walk (drop (at + 1) bytes) next
unfolding walk
walk-next bytes at part next below next_part =
    rw (drop-cons bytes at 0 below, next_part) (ap (λ n. walk (drop n bytes) next) (sym (add-one at)))

pub whole-text : (line text : List ℕ) (at : ℕ) (last : RecordPart) → (line ≢ []) × EndsLine line text → walk line Start ≡ walk (drop at line) last
    → length line ≤ at → last ≢ Quoted → IsWholeRecord text
unfolding walk
whole-text line text at last is walked all outside =
    whole-line line text last (record { some = is.0; walked = walked ∙ ap (λ rest. walk rest last) (drop_all at line all); outside = outside }) is.1
