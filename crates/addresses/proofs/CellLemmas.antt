-- Cells without leading and trailing white space, and the columns that they name.
use Rattle.std.proofs.Common.{◌≡◌, ℕ, ◌+◌, ◌<◌, suc, zero, Bool, true, false, List, [], ◌∷◌, Some, None, length, drop, map, refl, add-one, arith}
use Rattle.std.specs.Bool.{Decides}
use Rattle.std.specs.Char.{to_ascii_lowercase}
use Rattle.std.specs.List.{position_from}
use Rattle.std.specs.Str.{IsTrimAscii}
use Rattle.std.proofs.lemmas.Bool.Decides.{same_from_decides}
use Rattle.std.proofs.lemmas.Slice.Eq.{bytes_eq-Decides}
use Rattle.std.proofs.lemmas.Str.Ascii.{trim_ascii_is}
use Rattle.csv.specs.Records.{field_at}
use Rattle.addresses.specs.Columns.{is_named, trimmed}
use Rattle.addresses.specs.Record.{Fields}

pub is-trimmed : (cell trim : List ℕ) → IsTrimAscii cell trim → trim ≡ trimmed cell
is-trimmed cell trim is = trim_ascii_is cell trim _ refl is

pub is-named-trimmed : (name cell trim : List ℕ) (named : Bool) → trim ≡ trimmed cell
    → Decides named (map to_ascii_lowercase trim ≡ map to_ascii_lowercase name) → named ≡ is_named name cell
is-named-trimmed name cell trim named is decides =
    same_from_decides named (is_named name cell) (rw is at decides)
    (bytes_eq-Decides (map to_ascii_lowercase (trimmed cell)) (map to_ascii_lowercase name))

-- the cell at an index, and the ones after it
pub from-cell : (header : Fields) (column : ℕ) (cell : List ℕ) → field_at header column ≡ Some cell
    → drop column header ≡ cell ∷ drop (column + 1) header
unfolding field_at
from-cell [] column cell is = cc is
from-cell (first ∷ rest) zero cell is = cc is
from-cell (first ∷ rest) (suc column) cell is = rw (add-one (suc column)) (rw (add-one column) at (from-cell rest column cell is))

pub is-column : (test : List ℕ → Bool) (header : Fields) (column : ℕ) (cell : List ℕ) → field_at header column ≡ Some cell
    → test cell ≡ true → position_from test column (drop column header) ≡ Some column
is-column test header column cell is passes = rw (from-cell header column cell is, passes) refl

pub is-no-column : (test : List ℕ → Bool) (header : Fields) (column : ℕ) (cell : List ℕ) → field_at header column ≡ Some cell
    → test cell ≡ false
    → position_from test column (drop column header) ≡ position_from test (column + 1) (drop (column + 1) header)
is-no-column test header column cell is fails = rw (from-cell header column cell is, fails) refl

pub has-cell : (header : Fields) (column : ℕ) → column < length header → field_at header column ≡ None → ⊥
unfolding field_at
has-cell [] column below none = omega (arith, below)
has-cell (first ∷ rest) zero below none = cc none
has-cell (first ∷ rest) (suc column) below none = has-cell rest column (omega (arith, below)) none
