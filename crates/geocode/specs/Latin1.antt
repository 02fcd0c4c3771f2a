-- Latin-1 (ISO/IEC 8859-1), the encoding of the files: each character from U+0000 to U+00FF is the byte with its number.
use Rattle.std.specs.Prelude.{ℕ, Bool, nat_lt, List, if◌then◌else◌, Option, Some, None, chars, encode_utf8_all}
use Rattle.std.specs.List.{list_all}

abbrev pub is_latin_1 : ℕ → Bool
is_latin_1 character = nat_lt character 256

-- a text's characters as bytes, if Latin-1 has all of them
abbrev pub latin_1 : List ℕ → Option (List ℕ)
latin_1 text = if list_all is_latin_1 (chars text) then Some (chars text) else None

-- the text that bytes are in Latin-1, in UTF-8
abbrev pub utf8_of : List ℕ → List ℕ
utf8_of bytes = encode_utf8_all bytes
