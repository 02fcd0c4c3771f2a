-- The line about a value that breaks the rule of its option.
use Rattle.std.specs.Prelude.{ℕ, List, ◌++◌, codes}
use Rattle.reports.specs.Escape.{escaped}

abbrev pub broken_rule : List ℕ → List ℕ → List ℕ
broken_rule rule value = codes "error: --" ++ rule ++ codes ", and \"" ++ escaped value ++ codes "\" isn't\n"
