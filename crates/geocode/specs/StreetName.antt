-- Street names, as a search names them.
use Rattle.std.specs.Prelude.{ℕ, ◌&&◌, if◌then◌else◌, nat_le, List, length, Option, Some, None}
use Rattle.tl_segments.specs.declared.name.TheConstants.{NAME_LENGTH}

-- a text as a street's name: 1 to 30 bytes
abbrev pub street_name : List ℕ → Option (List ℕ)
street_name text = if nat_le 1 (length text) && nat_le (length text) NAME_LENGTH then Some text else None
