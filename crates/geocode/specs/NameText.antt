-- Texts as the names of streets.
use Rattle.std.specs.Prelude.{ℕ, ◌&&◌, if◌then◌else◌, nat_le, List, length, Option, Some, None, chars}
use Rattle.tl_segments.specs.declared.name.TheConstants.{NAME_LENGTH}
use Rattle.geocode.specs.Latin1.{latin_1}

-- a text as a street's name, if it has 1 to 30 characters: in Latin-1, or none if no file can have it
abbrev pub name_text : List ℕ → Option (Option (List ℕ))
name_text text = if nat_le 1 (length (chars text)) && nat_le (length (chars text)) NAME_LENGTH then Some (latin_1 text) else None
