-- The characters of a characterLiteral: those of Latin-1 (U+0020 to U+007E, U+00A0 to U+00FF), each stored as one byte as in the Bureau's files.
use Rattle.std.specs.Prelude.{◌≡◌, ℕ, ◌-◌, Bool, true, ◌&&◌, ◌||◌, ◌==◌, nat_le, if◌then◌else◌, List, [], ◌∷◌, ◌++◌}
use Rattle.std.specs.List.{flat_map, list_all}

abbrev pub is_character : ℕ → Bool
is_character byte = (nat_le 32 byte && nat_le byte 126) || (nat_le 160 byte && nat_le byte 255)

-- the spelling of a character: a quote is doubled, and any other character is in UTF-8
abbrev pub character_text : ℕ → List ℕ
character_text byte =
    if byte == 39 then 39 ∷ 39 ∷ []
    else (if nat_le byte 126 then byte ∷ []
    else (if nat_le byte 191 then 194 ∷ byte ∷ []
    else 195 ∷ (byte - 64) ∷ []))

-- a text begins with a character, followed by the rest
pub record IsCharacter (spelling : List ℕ) (byte : ℕ) (rest : List ℕ) : Type 0 where
  pub spelled : spelling ≡ character_text byte ++ rest
  pub is_one : is_character byte ≡ true

-- the literal has these characters between its quotes
pub record HasCharacters (spelling bytes : List ℕ) : Type 0 where
  pub spelled : spelling ≡ flat_map character_text bytes
  pub characters : list_all is_character bytes ≡ true
