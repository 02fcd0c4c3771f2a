-- Why a filter in JSON is refused.
use Rattle.std.proofs.Common.{◌≡◌, ◌≤◌, List, ℕ, length, IsUtf8, Some, subst, sym}
use Rattle.std.specs.Prelude.{Vec}
use Rattle.std.specs.declared.alloc.Global.{Global}
use Rattle.cql2.specs.declared.filter.Filter.{Filter as AFilter}
use Rattle.cql2_json.specs.Fault.{IsTranslated, Refuses}
use Rattle.cql2_json.specs.Translation.{text_of}
use Rattle.cql2_json.specs.declared.fault.JsonFault.{JsonFault}
use Rattle.cql2_json.specs.declared.fault.JsonFault.TheVariants as json_fault
use Rattle.cql2_json.specs.declared.translation.TheConstants.{MAX_LENGTH}
use Rattle.cql2_text.specs.Position.{IsPlacedIn}
use Rattle.cql2_text.specs.Spelled.{IsFilterText}
use Rattle.cql2_text.specs.declared.fault.FilterFault.{FilterFault}
use Rattle.cql2_text.specs.declared.fault.FilterFault.TheVariants as filter
use Rattle.cql2_text.specs.declared.fault.FilterFaultKind.{FilterFaultKind}
use Rattle.cql2_text.specs.declared.reader.TheConstants.{MAX_TEXT_LENGTH}
use Rattle.json.specs.Json.{Json, document}
use Rattle.filters.specs.Failure.{IsOfJson, json_flaw}
use Rattle.filters.specs.Filter.{IsFilterFailure, IsNoFilter, IsOfJsonText, of_character, of_text, of_value}
use Rattle.filters.specs.declared.failure.FilterFailure.{FilterFailure}
use Rattle.filters.specs.declared.failure.FilterFailure.TheVariants.{Noted, Pointed, Memory}
use Rattle.filters.specs.declared.filter.FilterLanguage.TheVariants as language
use Rattle.filters.specs.declared.filter.FilterOptions.{FilterOptions}

module _ (text : List ℕ) (options : FilterOptions) (is_json : options.language ≡ language.Json) where
  -- JSON with a text is refused only if memory runs out
  abbrev Only : JsonFault Global → Type 0
  Only fault = length text ≤ MAX_LENGTH → IsUtf8 text → (value : Json) (made : List ℕ) → document text ≡ Some value → text_of value ≡ Some made
      → length made ≤ MAX_LENGTH → fault ≡ json_fault.Memory

  spells_none : (fault : JsonFault Global) → (fault ≡ json_fault.Memory → ⊥) → Only fault → IsNoFilter language.Json text
  spells_none fault other only = λ short utf8 made spelled.
      other (only short utf8 spelled.1.0 spelled.0.items spelled.1.1 spelled.1.2 spelled.1.3)

  -- JSON has no text
  pub of_json_failure : (fault : JsonFault Global) (failure : FilterFailure) → Only fault → Refuses text MAX_LENGTH fault → IsOfJson fault failure
      → IsFilterFailure text options failure
  of_json_failure (json_fault.Json line column of) (Noted refusal note) only refuses is =
      of_text (filter.At line column (json_flaw of)) (rw is_json (spells_none (json_fault.Json line column of) (λ e. cc e) only)) is
  of_json_failure (json_fault.Value pointer of) (Pointed kind to note) only refuses is =
      let same : Refuses text MAX_LENGTH (json_fault.Value to of) =
      subst (λ (at : Vec ℕ Global). Refuses text MAX_LENGTH (json_fault.Value at of)) (sym is.1) refuses in
      record { is_json = is_json; refused = of_value of (spells_none (json_fault.Value pointer of) (λ e. cc e) only) same is.0 }
  of_json_failure fault Memory only refuses is = tt
  of_json_failure fault failure only refuses is = absurd is

  -- its text isn't a filter
  of_text_failure : (made : Vec ℕ Global) (fault : FilterFault) (failure : FilterFailure) → IsTranslated text MAX_LENGTH made
      → IsPlacedIn made.items fault
      → (length made.items ≤ MAX_TEXT_LENGTH → IsUtf8 made.items → (of : AFilter Global) → IsFilterText made.items of → fault ≡ filter.Memory)
      → IsOfJsonText text made.items fault failure → IsFilterFailure text options failure
  of_text_failure made (filter.At line column flaw) (Pointed kind pointer note) translated placed reads is =
      let none : IsNoFilter language.Text made.items =
      λ short utf8 of spelled. let no : filter.At line column flaw ≡ filter.Memory = reads short utf8 of spelled in cc no in
      let same : IsPlacedIn made.items (filter.At line column kind) =
      subst (λ (of : FilterFaultKind). IsPlacedIn made.items (filter.At line column of)) (sym is.0) placed in
      record { is_json = is_json; refused = of_character made line column translated none same is.1 }
  of_text_failure made fault Memory translated placed reads is = tt
  of_text_failure made fault failure translated placed reads is = absurd is

  pub of_json_text_failure : (made : Vec ℕ Global) (read shown : List ℕ) (fault : FilterFault) (failure : FilterFailure) → read ≡ made.items
      → shown ≡ made.items → IsTranslated text MAX_LENGTH made → IsPlacedIn read fault
      → (length read ≤ MAX_TEXT_LENGTH → IsUtf8 read → (of : AFilter Global) → IsFilterText read of → fault ≡ filter.Memory)
      → IsOfJsonText text shown fault failure → IsFilterFailure text options failure
  of_json_text_failure made read shown fault failure is_read is_shown translated placed reads is =
      of_text_failure made fault failure translated (subst (λ (given : List ℕ). IsPlacedIn given fault) is_read placed)
      (subst (λ (given : List ℕ). length given ≤ MAX_TEXT_LENGTH → IsUtf8 given → (of : AFilter Global) → IsFilterText given of
      → fault ≡ filter.Memory) is_read reads) (subst (λ (given : List ℕ). IsOfJsonText text given fault failure) is_shown is)
