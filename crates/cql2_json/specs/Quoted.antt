-- Names and texts in quotes (CQL2, 21-065r2, annex B: characterLiteral, propertyName).
use Rattle.std.specs.Prelude.{ℕ, List, [], ◌∷◌, ◌++◌, length, Bool, not, ◌&&◌, ◌||◌, ◌==◌, nat_lt, if◌then◌else◌}
use Rattle.std.specs.Char.{is_ascii_alphanumeric}
use Rattle.std.specs.List.{flat_map, list_all, list_any}

-- a quote is doubled
abbrev pub quoted_byte : ℕ → ℕ → List ℕ
quoted_byte quote byte = if byte == quote then quote ∷ byte ∷ [] else byte ∷ []

abbrev pub quoted_text : ℕ → List ℕ → List ℕ
quoted_text quote text = quote ∷ (flat_map (quoted_byte quote) text ++ quote ∷ [])

-- a letter, a digit or an underscore
abbrev pub is_name_byte : ℕ → Bool
is_name_byte byte = is_ascii_alphanumeric byte || byte == 95

abbrev pub is_name : List ℕ → Bool
is_name text = not (length text == 0) && list_all is_name_byte text

abbrev pub is_control : ℕ → Bool
is_control byte = nat_lt byte 32 || byte == 127

abbrev pub is_printable : List ℕ → Bool
is_printable text = not (list_any is_control text)
