-- The text of JSON, or why it has none.
use Rattle.std.specs.Prelude.{◌≡◌, ℕ, ◌<◌, ◌≤◌, ◌++◌, List, length, Some, None, Err, ⊤, Vec}
use Rattle.std.specs.Str.{IsUtf8}
use Rattle.json.specs.Json.{Json, document}
use Rattle.cql2_json.specs.Pointer.{pointer_text}
use Rattle.cql2_json.specs.Position.{column_after, line_after}
use Rattle.cql2_json.specs.Translation.{Misplaced, filter_translation, joined, path_at, text_of, written}
use Rattle.cql2_json.specs.declared.fault.JsonFault.{JsonFault}
use Rattle.cql2_json.specs.declared.fault.JsonFault.TheVariants.{Json as Unread, Value, Memory}
use Rattle.cql2_json.specs.declared.fault.JsonFlaw.{JsonFlaw}
use Rattle.cql2_json.specs.declared.fault.JsonFlaw.TheVariants as json_flaw
use Rattle.cql2_json.specs.declared.fault.ValueFlaw.{ValueFlaw}
use Rattle.cql2_json.specs.declared.fault.ValueFlaw.TheVariants.{Expected, TooLong}
use Rattle.cql2_json.specs.declared.pointer.Step.{Step}
use Rattle.cql2_json.specs.declared.translation.TheConstants.{MAX_LENGTH}

-- a flaw of JSON, placed after this prefix of it
abbrev pub json_fault_after : {A : Type 0} → List ℕ → JsonFlaw → JsonFault A
json_fault_after front flaw = Unread (line_after front) (column_after front) flaw

-- the text of the value that JSON is, which isn't longer than the limit
abbrev pub IsTranslated : {A : Type 0} → List ℕ → ℕ → Vec ℕ A → Type 0
IsTranslated json limit text =
    (value : Json) × (document json ≡ Some value) × (text_of value ≡ Some text.items) × (length text.items ≤ limit)

-- a flaw of the value at a path
abbrev pub IsPointed : {A : Type 0} → List Step → ValueFlaw → JsonFault A → Type 0
IsPointed path flaw (Unread line column other) = ⊥
IsPointed path flaw (Value pointer other) = (pointer.items ≡ pointer_text path) × (other ≡ flaw)
IsPointed path flaw Memory = ⊤

-- the pointer leads to the first value that has no text, or to the one that writes the first byte over the limit
abbrev pub RefusesValue : {A : Type 0} → Json → ℕ → JsonFault A → Type 0
RefusesValue value limit (Unread line column flaw) = ⊥
RefusesValue value limit (Value pointer (Expected needs)) =
    (fault : Misplaced) × (filter_translation value ≡ Err fault) × (needs ≡ fault.needs) × (pointer.items ≡ pointer_text fault.path)
    × (length (joined fault.before) ≤ limit)
RefusesValue value limit (Value pointer TooLong) =
    (path : List Step) × (path_at (written (filter_translation value)) limit ≡ Some path) × (pointer.items ≡ pointer_text path)
RefusesValue value limit Memory = ⊤

-- a line and a column that lie within JSON
abbrev pub IsPlacedIn : List ℕ → ℕ → ℕ → Type 0
IsPlacedIn json line column =
    (front : List ℕ) × (after : List ℕ) × (json ≡ front ++ after) × (line ≡ line_after front) × (column ≡ column_after front)

abbrev pub HasFlaw : List ℕ → JsonFlaw → Type 0
HasFlaw json json_flaw.Utf8 = ¬ (IsUtf8 json)
HasFlaw json json_flaw.Syntax = document json ≡ None
HasFlaw json json_flaw.TooLong = MAX_LENGTH < length json

-- why JSON has no text up to a limit
abbrev pub Refuses : {A : Type 0} → List ℕ → ℕ → JsonFault A → Type 0
Refuses json limit (Unread line column flaw) = HasFlaw json flaw × IsPlacedIn json line column
Refuses json limit (Value pointer flaw) = (value : Json) × (document json ≡ Some value) × RefusesValue value limit (Value pointer flaw)
Refuses json limit Memory = ⊤
