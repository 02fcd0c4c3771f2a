-- The options of a filter, by the names that are given.
use Rattle.std.specs.Prelude.{ℕ, List, codes, if◌then◌else◌, Option, Some, None, Result, Ok, Err}
use Rattle.std.specs.Option.{option_or}
use Rattle.std.specs.Result.{result_err}
use Rattle.std.specs.Str.{bytes_eq}
use Rattle.cql2.specs.declared.column.Column.{Column}
use Rattle.cql2.specs.declared.column.Column.TheVariants.{Numeric}
use Rattle.cql2.specs.declared.column.NumericColumn.{NumericColumn}
use Rattle.cql2_tokens.specs.Name.{column_named}
use Rattle.filters.specs.OptionsFault.{FilterOptionsFaultParts, Language, Score}
use Rattle.filters.specs.declared.filter.FilterLanguage.{FilterLanguage}
use Rattle.filters.specs.declared.filter.FilterLanguage.TheVariants as language

-- the language of this name, by default the text encoding
abbrev pub language_named : Option (List ℕ) → Result FilterLanguage FilterOptionsFaultParts
language_named None = Ok language.Text
language_named (Some name) =
    if bytes_eq name (codes "cql2-text") then Ok language.Text
    else if bytes_eq name (codes "cql2-json") then Ok language.Json
    else Err (Language name)

-- the column of this name, if it holds numbers or a coordinate
abbrev pub numeric : List ℕ → Option Column → Result (Option NumericColumn) FilterOptionsFaultParts
numeric name (Some (Numeric column)) = Ok (Some column)
numeric name column = Err (Score name)

-- the column of the score, if one is named
abbrev pub score_named : Option (List ℕ) → Result (Option NumericColumn) FilterOptionsFaultParts
score_named None = Ok None
score_named (Some name) = numeric name (column_named name)

-- the first fault of a language and a score
abbrev pub options_fault : Option (List ℕ) → Option (List ℕ) → Option FilterOptionsFaultParts
options_fault language score = option_or (result_err (language_named language)) (result_err (score_named score))
