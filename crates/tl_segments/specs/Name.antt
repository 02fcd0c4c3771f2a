-- Names of street segments (TIGER/Line 2006, FENAME of record types 1 and 5): 30 bytes, padded with blanks.
use Rattle.std.specs.Prelude.{ℕ, Bool, ◌&&◌, List, length, take, drop}
use Rattle.std.specs.Str.{str_eq_ignore_ascii_case}
use Rattle.tl_fields.specs.Number.{is_blank}

-- The name begins with the wanted bytes, compared without ASCII case, and the rest is blank. A byte above 127 equals only itself.
abbrev pub name_equals : List ℕ → List ℕ → Bool
name_equals name wanted =
    str_eq_ignore_ascii_case (take (length wanted) name) wanted && is_blank (drop (length wanted) name)
