-- How a diagnostic echoes what a user gave.
use Rattle.std.specs.Prelude.{ℕ, List, [], ◌∷◌, codes, if◌then◌else◌, ◌==◌}
use Rattle.std.specs.Char.{is_ascii_control}
use Rattle.std.specs.Char.Escape.{escape_unicode}
use Rattle.std.specs.List.{flat_map}

-- a tab, a line feed, a carriage return, any other control character, and any other byte, which stays
unfoldable pub escaped_byte : ℕ → List ℕ
escaped_byte byte =
    if byte == 9 then codes "\\t"
    else (if byte == 10 then codes "\\n"
    else (if byte == 13 then codes "\\r"
    else (if is_ascii_control byte then escape_unicode byte
    else byte ∷ [])))

abbrev pub escaped : List ℕ → List ℕ
escaped text = flat_map escaped_byte text
