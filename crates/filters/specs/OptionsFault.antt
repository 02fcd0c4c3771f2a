-- Why a filter can't be compiled with the options that are given, and the line about it.
use Rattle.std.specs.Prelude.{ℕ, List, codes}
use Rattle.filters.specs.declared.options_fault.FilterOptionsFault.{FilterOptionsFault}
use Rattle.filters.specs.declared.options_fault.FilterOptionsFault.TheVariants as fault
use Rattle.reports.specs.Rule.{broken_rule}

-- this isn't the name of a language of filters, or of a numeric column
pub data FilterOptionsFaultParts : Type 0 where
  Language : List ℕ → FilterOptionsFaultParts
  Score : List ℕ → FilterOptionsFaultParts

abbrev pub parts_of : FilterOptionsFault → FilterOptionsFaultParts
parts_of (fault.Language name) = Language name.now
parts_of (fault.Score name) = Score name.now

abbrev pub line : FilterOptionsFault → List ℕ
line (fault.Language name) = broken_rule (codes "filter-lang is cql2-text or cql2-json") name.now
line (fault.Score name) = broken_rule (codes "score is a column with numbers") name.now
