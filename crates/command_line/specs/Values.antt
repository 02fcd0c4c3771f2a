-- The values of a command's arguments.
use Rattle.std.specs.Prelude.{◌≡◌, ◌≢◌, ◌==◌, ◌&&◌, ℕ, Bool, false, if◌then◌else◌, nat_le, List, length, codes}
use Rattle.std.specs.Prelude.{Option, Some, None, option_and_then, option_map, Result, Ok, Err}
use Rattle.std.specs.List.{list_all}
use Rattle.std.specs.Option.{option_map_or}
use Rattle.std.specs.Char.{is_ascii_digit}
use Rattle.std.specs.Str.{bytes_eq}
use Rattle.std.specs.Str.Parse.{digits_value}
use Rattle.numerals.specs.Numeral.{decimal_in}
use Rattle.clap.specs.Matches.{found_of}
use Rattle.clap.specs.Walk.{Row, Text, all_of, first_of, rows_of}
use Rattle.clap.specs.declared.parser.matches.ArgMatches.{ArgMatches}
use Rattle.cql2.specs.declared.column.NumericColumn.{NumericColumn}
use Rattle.filters.specs.Options.{language_named, options_fault, score_named}
use Rattle.filters.specs.OptionsFault as filter_fault
use Rattle.filters.specs.OptionsFault.{FilterOptionsFaultParts}
use Rattle.filters.specs.declared.filter.FilterLanguage.{FilterLanguage}
use Rattle.filters.specs.declared.options_fault.FilterOptionsFault.{FilterOptionsFault}
use Rattle.layers.specs.Layer.{LayerParts}
use Rattle.layers.specs.LayerFault as layer_fault
use Rattle.layers.specs.LayerFault.{LayerFaultParts, NamesNearest}
use Rattle.layers.specs.Names.{layer_named}
use Rattle.layers.specs.declared.layer_fault.LayerFault.{LayerFault}
use Rattle.command_line.specs.declared.fault.ArgumentsFault.{ArgumentsFault}
use Rattle.command_line.specs.declared.fault.ArgumentsFault.TheVariants.{Filter, Layer, Memory}

-- what the parser found, a row for each argument
abbrev pub rows_in : ArgMatches → List Row
rows_in matches = rows_of (found_of matches)

-- ---- the meaning of a text

-- the file that a text names; `-` is standard input
abbrev pub file_named : Text → Text
file_named text = if bytes_eq text (codes "-") then codes "/dev/stdin" else text

-- the code of a county: five digits
abbrev pub is_code : Text → Bool
is_code text = length text == 5 && list_all is_ascii_digit text

abbrev pub code_in : Text → Option Text
code_in text = if is_code text then Some text else None

-- the codes of counties: at least one, and at most 100,000
abbrev pub codes_in : List Text → Option (List Text)
codes_in texts = if nat_le 1 (length texts) && nat_le (length texts) 100_000 && list_all is_code texts then Some texts else None

-- a port: 1 to 65535 in digits
abbrev pub port_in : Text → Option ℕ
port_in text =
    let port = digits_value 10 text in
    if list_all is_ascii_digit text && nat_le 1 port && nat_le port 65_535 then Some port else None

-- ---- the meaning of an argument's value; `first_of` is the value as it is

abbrev pub file_of : Text → List Row → Option Text
file_of name rows = option_map file_named (first_of name rows)

-- whether a flag is given; its value is then the text `true`
abbrev pub flag_of : Text → List Row → Bool
flag_of name rows = option_map_or (λ value. bytes_eq value (codes "true")) (first_of name rows) false

-- a number of at most `most` digits
abbrev pub number_of : ℕ → Text → List Row → Option ℕ
number_of most name rows = option_and_then (decimal_in most) (first_of name rows)

abbrev pub code_of : List Row → Option Text
code_of rows = option_and_then code_in (first_of (codes "code") rows)

abbrev pub codes_of : List Row → Option (List Text)
codes_of rows = option_and_then codes_in (all_of (codes "code") rows)

-- ---- the meaning of the options of filters and layers

abbrev pub language_of : List Row → Result FilterLanguage FilterOptionsFaultParts
language_of rows = language_named (first_of (codes "filter-lang") rows)

abbrev pub score_of : List Row → Result (Option NumericColumn) FilterOptionsFaultParts
score_of rows = score_named (first_of (codes "score") rows)

abbrev pub layer_of : List Row → Result LayerParts LayerFaultParts
layer_of rows = layer_named (first_of (codes "format") rows) (first_of (codes "columns") rows) (first_of (codes "geometry") rows)

-- the first fault of a filter's options
abbrev pub IsFilterFault : List Row → ArgumentsFault → Type 0
IsFilterFault rows fault =
    (of : FilterOptionsFault) × (fault ≡ Filter of)
    × (options_fault (first_of (codes "filter-lang") rows) (first_of (codes "score") rows) ≡ Some (filter_fault.parts_of of))

-- the first fault of a layer's options, unless memory ran out
abbrev pub IsLayerFault : List Row → ArgumentsFault → Type 0
IsLayerFault rows fault = fault ≢ Memory → (of : LayerFault) × (fault ≡ Layer of) × (layer_of rows ≡ Err (layer_fault.parts_of of)) × NamesNearest of

-- ---- reading

-- the result is one that the relation allows; a fault means that there is none
abbrev pub Reads : {X : Type 0} → (X → Type 0) → Result X ArgumentsFault → Type 0
Reads Is (Ok x) = Is x
Reads {X} Is (Err fault) = (x : X) → Is x → ⊥

-- the same, unless memory ran out
abbrev pub ReadsUnlessMemory : {X : Type 0} → (X → Type 0) → Result X ArgumentsFault → Type 0
ReadsUnlessMemory Is (Ok x) = Is x
ReadsUnlessMemory {X} Is (Err fault) = fault ≢ Memory → (x : X) → Is x → ⊥
