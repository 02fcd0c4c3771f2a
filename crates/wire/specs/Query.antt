-- The parameters in the query of a target (URL Standard, section 5.1: application/x-www-form-urlencoded).
use Rattle.std.specs.Prelude.{◌≡◌, ◌||◌, ℕ, Bool, not, List, find, codes, if◌then◌else◌, Option, Some, None, option_map, Result, Ok, Err}
use Rattle.std.specs.Option.{option_or}
use Rattle.std.specs.Result.{result_err}
use Rattle.std.specs.Str.{bytes_eq}
use Rattle.std.specs.Str.Lossy.{utf8_lossy}
use Rattle.cql2.specs.declared.column.NumericColumn.{NumericColumn}
use Rattle.filters.specs.Options.{language_named, options_fault, score_named}
use Rattle.filters.specs.OptionsFault.{FilterOptionsFaultParts}
use Rattle.filters.specs.declared.filter.FilterLanguage.{FilterLanguage}
use Rattle.filters.specs.declared.filter.FilterOptions.{FilterOptions}
use Rattle.form_urlencoded.specs.Form.{decode, raw_pairs}
use Rattle.geocode.specs.Query.{QueryParts, query_of}
use Rattle.geocode.specs.declared.query.QueryFault.{QueryFault}
use Rattle.layers.specs.Layer.{LayerParts, has_shapes}
use Rattle.layers.specs.LayerFault.{LayerFaultParts}
use Rattle.layers.specs.Names.{layer_named}
use Rattle.wire.specs.ParameterFault.{ParameterFaultParts, Filter, Layer, NoShapes, Unknown}
use Rattle.wire.specs.declared.query.Parameters.{Parameters}
use Rattle.wire.specs.declared.query.Parameters.TheVariants.{OfFilter, OfSelect}

-- the text that a key or a value stands for, with U+FFFD in place of invalid UTF-8
abbrev pub decoded : List ℕ → List ℕ
decoded bytes = utf8_lossy (decode bytes)

-- the value of the first of these pairs with this key
abbrev pub value_in : List ℕ → List (List ℕ × List ℕ) → Option (List ℕ)
value_in key pairs = option_map (λ pair. decoded pair.1) (find (λ pair. bytes_eq (decoded pair.0) key) pairs)

-- the value of a query's first pair with this key
abbrev pub first_value : List ℕ → List ℕ → Option (List ℕ)
first_value key query = value_in key (raw_pairs query)

abbrev pub if_in_form : Result QueryParts QueryFault → Option QueryParts
if_in_form (Ok place) = Some place
if_in_form (Err fault) = None

-- a request with a number and a name, and optionally a ZIP code; none if one of them is missing or malformed
abbrev pub place_with : Option (List ℕ) → Option (List ℕ) → Option (List ℕ) → Option QueryParts
place_with (Some number) (Some name) zip = if_in_form (query_of number name zip)
place_with number name zip = None

abbrev pub requested_place : List ℕ → Option QueryParts
requested_place query = place_with (first_value (codes "number") query) (first_value (codes "name") query) (first_value (codes "zip") query)

-- ---- the options of a request with a filter

-- a filter's options; `POST /select` also takes those of its layer
abbrev pub is_filter_key : List ℕ → Bool
is_filter_key key = bytes_eq key (codes "filter-lang") || bytes_eq key (codes "score")

abbrev pub is_select_key : List ℕ → Bool
is_select_key key =
    is_filter_key key || bytes_eq key (codes "format") || bytes_eq key (codes "columns") || bytes_eq key (codes "geometry")

abbrev pub takes : Parameters → List ℕ → Bool
takes OfFilter key = is_filter_key key
takes OfSelect key = is_select_key key

-- the first of these pairs whose key isn't one of the parameters
abbrev pub unknown_in : Parameters → List (List ℕ × List ℕ) → Option ParameterFaultParts
unknown_in parameters pairs = option_map (λ pair. Unknown (decoded pair.0)) (find (λ pair. not (takes parameters (decoded pair.0))) pairs)

abbrev pub unknown_key : Parameters → List ℕ → Option ParameterFaultParts
unknown_key parameters query = unknown_in parameters (raw_pairs query)

abbrev pub requested_language : List ℕ → Result FilterLanguage FilterOptionsFaultParts
requested_language query = language_named (first_value (codes "filter-lang") query)

abbrev pub requested_score : List ℕ → Result (Option NumericColumn) FilterOptionsFaultParts
requested_score query = score_named (first_value (codes "score") query)

-- a server has no shapes
abbrev pub without_shapes : Result LayerParts LayerFaultParts → Result LayerParts ParameterFaultParts
without_shapes (Err fault) = Err (Layer fault)
without_shapes (Ok layer) = if has_shapes layer then Err NoShapes else Ok layer

unfoldable pub requested_layer : List ℕ → Result LayerParts ParameterFaultParts
requested_layer query =
    without_shapes (layer_named (first_value (codes "format") query) (first_value (codes "columns") query) (first_value (codes "geometry") query))

-- the requested options for compiling a filter
abbrev pub AreOptionsOf : List ℕ → FilterOptions → Type 0
AreOptionsOf query options = (requested_language query ≡ Ok options.language) × (requested_score query ≡ Ok options.score)

-- the first fault of the keys, the filter's language and its score
abbrev pub filter_fault : Parameters → List ℕ → Option ParameterFaultParts
filter_fault parameters query =
    option_or (unknown_key parameters query)
    (option_map Filter (options_fault (first_value (codes "filter-lang") query) (first_value (codes "score") query)))

-- the first fault of a query; of `POST /select` also, last, of the layer
abbrev pub query_fault : Parameters → List ℕ → Option ParameterFaultParts
query_fault OfFilter query = filter_fault OfFilter query
query_fault OfSelect query = option_or (filter_fault OfSelect query) (result_err (requested_layer query))
