-- The programs that filters compile to, and why a text without one is refused.
use Rattle.std.specs.Prelude.{◌≡◌, ◌≤◌, ℕ, List, [], length, take, Option, Some, Ok, IsUtf8, ⊤, Vec, unwrap_or}
use Rattle.std.specs.declared.alloc.Global.{Global}
use Rattle.bpf_flow.specs.Flow.{IsForward}
use Rattle.bpf_insn.specs.Code.{IsCodeOf}
use Rattle.bpf_insn.specs.declared.instruction.Insn.{Insn}
use Rattle.bpf_verify.specs.Annotation.{HasGoodAnnotation}
use Rattle.cql2.specs.declared.column.NumericColumn.{NumericColumn}
use Rattle.cql2.specs.declared.filter.Filter.{Filter}
use Rattle.cql2_code.specs.Chosen.{Chooses}
use Rattle.cql2_code.specs.CompileFault as compile_fault
use Rattle.cql2_code.specs.Layout.{IsTooLong}
use Rattle.cql2_code.specs.Lowering.{program_of}
use Rattle.cql2_code.specs.declared.fault.CompileFault.TheVariants.{TooLong}
use Rattle.cql2_json.specs.Fault.{IsTranslated, Refuses}
use Rattle.cql2_json.specs.Pointer.{pointer_text}
use Rattle.cql2_json.specs.Position.{offset_of}
use Rattle.cql2_json.specs.Translation.{Piece, filter_translation, path_at}
use Rattle.cql2_json.specs.declared.fault.JsonFault.TheVariants.{Value}
use Rattle.cql2_json.specs.declared.fault.ValueFlaw.{ValueFlaw}
use Rattle.cql2_json.specs.declared.translation.TheConstants.{MAX_LENGTH}
use Rattle.cql2_text.specs.FilterFault as filter_fault
use Rattle.cql2_text.specs.Position.{IsPlacedIn, fault_after}
use Rattle.cql2_text.specs.Spelled.{IsFilterText}
use Rattle.cql2_text.specs.declared.fault.FilterFault.{FilterFault}
use Rattle.cql2_text.specs.declared.fault.FilterFault.TheVariants.{At}
use Rattle.cql2_text.specs.declared.fault.FilterFaultKind.{FilterFaultKind}
use Rattle.cql2_text.specs.declared.fault.FilterFaultKind.TheVariants as flaw
use Rattle.cql2_text.specs.declared.reader.TheConstants.{MAX_TEXT_LENGTH}
use Rattle.json.specs.Json.{Json, document}
use Rattle.refusals.specs.Refusal.{RefusalParts}
use Rattle.filters.specs.Failure.{value_flaw}
use Rattle.filters.specs.declared.failure.FilterFailure.{FilterFailure}
use Rattle.filters.specs.declared.failure.FilterFailure.TheVariants.{Noted, Pointed, Memory}
use Rattle.filters.specs.declared.filter.FilterLanguage.{FilterLanguage}
use Rattle.filters.specs.declared.filter.FilterLanguage.TheVariants as language
use Rattle.filters.specs.declared.filter.FilterOptions.{FilterOptions}

-- a text in a language spells a filter: the text itself does, or the text that the JSON is translated to
abbrev pub Spells : FilterLanguage → List ℕ → Filter Global → Type 0
Spells language.Text text filter = IsFilterText text filter
Spells language.Json json filter = (text : Vec ℕ Global) × IsTranslated json MAX_LENGTH text × IsFilterText text.items filter

-- The text spells a filter. The code selects the segments for which the filter is true, with their scores, and the verifier accepts it.
pub record IsCodeOfText (text : List ℕ) (options : FilterOptions) (code : List Insn) : Type 0 where
  pub filter : Filter Global
  pub is_text : Spells options.language text filter
  pub chooses : Chooses code filter options.score
  pub forward : IsForward code
  pub accepted : HasGoodAnnotation code

-- the program's bytes are those of such a code
pub record IsProgramOf (text : List ℕ) (options : FilterOptions) (program : List ℕ) : Type 0 where
  pub code : List Insn
  pub is_code : IsCodeOf program code
  pub of_text : IsCodeOfText text options code

-- the text doesn't spell a filter, provided that it is UTF-8 and within the limit of bytes
abbrev pub IsNoFilter : FilterLanguage → List ℕ → Type 0
IsNoFilter language text = length text ≤ MAX_TEXT_LENGTH → IsUtf8 text → (filter : Filter Global) → ¬ Spells language text filter

-- the fault of a text that is longer than the limit of bytes
abbrev pub length_fault : List ℕ → FilterFault
length_fault text = fault_after (take MAX_TEXT_LENGTH text) flaw.TooLong

-- why a text is refused at one of its characters: it doesn't spell a filter, or the program of the filter, which isn't in JSON, is too long
pub data IsFilterRefusal (text : List ℕ) (options : FilterOptions) (refusal : RefusalParts) : Type 0 where
  of_text : (fault : FilterFault) → IsNoFilter options.language text → refusal ≡ filter_fault.refusal fault → IsFilterRefusal text options refusal
  of_program : (filter : Filter Global) → options.language ≡ language.Text → Spells options.language text filter
      → IsTooLong (program_of filter options.score) → refusal ≡ compile_fault.refusal TooLong → IsFilterRefusal text options refusal

-- the pointer leads to the value of the JSON that writes the character at this column of the text that the JSON is translated to
abbrev pub IsPointerAt : List ℕ → List ℕ → ℕ → List ℕ → Type 0
IsPointerAt json text column pointer = IsUtf8 json → (value : Json) (pieces : List Piece) → document json ≡ Some value → filter_translation value ≡ Ok pieces
    → pointer ≡ pointer_text (unwrap_or (path_at pieces (offset_of column text)) [])

-- Why a filter in JSON is refused at the value that the pointer leads to: the value has no text, or the text is too long from this value on. Or the
-- text that the JSON is translated to has this flaw at a character, and the value writes that character. Or the program of the filter is too long, for
-- which the pointer is that of the whole filter.
pub data IsPointedRefusal (json : List ℕ) (score : Option NumericColumn) (kind : FilterFaultKind) (pointer : Vec ℕ Global) : Type 0 where
  of_value : (of : ValueFlaw) → IsNoFilter language.Json json → Refuses json MAX_LENGTH (Value pointer of) → kind ≡ value_flaw of
      → IsPointedRefusal json score kind pointer
  of_character : (text : Vec ℕ Global) (line column : ℕ) → IsTranslated json MAX_LENGTH text → IsNoFilter language.Text text.items
      → IsPlacedIn text.items (At line column kind) → IsPointerAt json text.items column pointer.items → IsPointedRefusal json score kind pointer
  of_whole : (filter : Filter Global) → Spells language.Json json filter → IsTooLong (program_of filter score) → kind ≡ flaw.TooLong
      → pointer.items ≡ [] → IsPointedRefusal json score kind pointer

-- the filter is in JSON, and is refused so
pub record IsJsonRefusal (text : List ℕ) (options : FilterOptions) (kind : FilterFaultKind) (pointer : Vec ℕ Global) : Type 0 where
  pub is_json : options.language ≡ language.Json
  pub refused : IsPointedRefusal text options.score kind pointer

-- a failure to compile the filter
abbrev pub IsFilterFailure : List ℕ → FilterOptions → FilterFailure → Type 0
IsFilterFailure text options (Noted refusal note) = IsFilterRefusal text options refusal
IsFilterFailure text options (Pointed kind pointer note) = IsJsonRefusal text options kind pointer
IsFilterFailure text options Memory = ⊤

-- why the text of JSON isn't a filter
abbrev pub IsOfJsonText : List ℕ → List ℕ → FilterFault → FilterFailure → Type 0
IsOfJsonText json text (At line column flaw) (Pointed kind pointer note) = (kind ≡ flaw) × IsPointerAt json text column pointer.items
IsOfJsonText json text fault Memory = ⊤
IsOfJsonText json text fault failure = ⊥
