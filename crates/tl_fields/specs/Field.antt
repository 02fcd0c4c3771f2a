-- A field of a record line (TIGER/Line 2006, record layouts, columns Beg and End).
use Rattle.std.specs.Prelude.{ℕ, ◌+◌, ◌-◌, List, take, drop}

-- the bytes from column first to column last, counted from 1, both inclusive
abbrev pub field_of : List ℕ → ℕ → ℕ → List ℕ
field_of line first last = take (last + 1 - first) (drop (first - 1) line)
