-- Patterns of LIKE (CQL2, 21-065r2, pattern matching).
use Rattle.std.specs.Prelude.{◌≡◌, ℕ, ◌≤◌, Bool, true, false, ◌||◌, ◌==◌, if◌then◌else◌, List, [], ◌∷◌, ◌++◌}
use Rattle.std.specs.List.{count_by}
use Rattle.cql2.specs.declared.pattern.Folding.{Folding}
use Rattle.cql2.specs.declared.pattern.Pattern.{Pattern}
use Rattle.cql2.specs.declared.pattern.PatternPart.{PatternPart}
use Rattle.cql2.specs.declared.pattern.PatternPart.TheVariants.{Exactly, Alike, One, Many}
use Rattle.cql2_tokens.specs.Character.{character_text, is_character}

-- the part of a pattern that a character is: this one, or one that is the same but for what is ignored
abbrev pub character_pattern : Folding → ℕ → PatternPart
character_pattern folding byte = if folding.case || folding.accents then Alike folding byte else Exactly byte

-- `%`, `_` and `\`
abbrev pub is_special : ℕ → Bool
is_special byte = byte == 37 || byte == 95 || byte == 92

-- the text after each `%` at its start
abbrev pub after_percents : List ℕ → List ℕ
after_percents [] = []
after_percents (byte ∷ text) = if byte == 37 then after_percents text else byte ∷ text

-- The part at the start of a text, and the text after it: `%` is any number of characters, as `%%` is, `_` is any character, and `\` makes the
-- next character an ordinary one.
pub data IsPatternPart (folding : Folding) : List ℕ → PatternPart → List ℕ → Type 0 where
  many : (rest : List ℕ) → IsPatternPart folding (37 ∷ rest) Many (after_percents rest)
  one : (rest : List ℕ) → IsPatternPart folding (95 ∷ rest) One rest
  escaped : (byte : ℕ) (rest : List ℕ) → is_character byte ≡ true
      → IsPatternPart folding (92 ∷ (character_text byte ++ rest)) (character_pattern folding byte) rest
  ordinary : (byte : ℕ) (rest : List ℕ) → is_character byte ≡ true → is_special byte ≡ false
      → IsPatternPart folding (character_text byte ++ rest) (character_pattern folding byte) rest

-- the whole literal, part by part
pub data IsPattern (folding : Folding) : List ℕ → List PatternPart → Type 0 where
  empty : IsPattern folding [] []
  longer : {text rest : List ℕ} {part : PatternPart} {parts : List PatternPart} → IsPatternPart folding text part rest
      → IsPattern folding rest parts → IsPattern folding text (part ∷ parts)

-- the part takes one byte
abbrev pub takes_one : PatternPart → Bool
takes_one Many = false
takes_one part = true

-- the number of bytes in the shortest text that matches
abbrev pub least_length : List PatternPart → ℕ
least_length parts = count_by takes_one parts

-- the literal's pattern, which a text of a column of this width can match
pub record IsLikePattern {A : Type 0} (width : ℕ) (folding : Folding) (spelling : List ℕ) (pattern : Pattern A) : Type 0 where
  pub read : IsPattern folding spelling pattern.parts.items
  pub few : least_length pattern.parts.items ≤ width
