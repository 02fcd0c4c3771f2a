-- Patterns of LIKE (CQL2, 21-065r2, pattern matching).
use Rattle.std.specs.Prelude.{ℕ, Bool, true, false, ◌&&◌, ◌==◌, nat_lt, List, [], ◌∷◌}
use Rattle.std.specs.List.{list_all, list_any}
use Rattle.cql2.specs.Folding.{is_alike}
use Rattle.cql2.specs.declared.pattern.PatternPart.{PatternPart}
use Rattle.cql2.specs.declared.pattern.PatternPart.TheVariants.{Exactly, Alike, One, Many}

-- the text from each byte on, and its end
abbrev pub rests_of : List ℕ → List (List ℕ)
rests_of [] = [] ∷ []
rests_of (byte ∷ text) = (byte ∷ text) ∷ rests_of text

-- a text matches a pattern: `_` takes one byte, and `%` any number of them
abbrev pub is_like : List PatternPart → List ℕ → Bool
is_like [] [] = true
is_like [] (byte ∷ text) = false
is_like (Many ∷ pattern) text = list_any (λ rest. is_like pattern rest) (rests_of text)
is_like (One ∷ pattern) (byte ∷ text) = is_like pattern text
is_like (Exactly wanted ∷ pattern) (byte ∷ text) = byte == wanted && is_like pattern text
is_like (Alike folding wanted ∷ pattern) (byte ∷ text) = is_alike folding byte wanted && is_like pattern text
is_like pattern [] = false

-- the pattern wants bytes
abbrev pub is_byte : PatternPart → Bool
is_byte (Exactly wanted) = nat_lt wanted 256
is_byte (Alike folding wanted) = nat_lt wanted 256
is_byte One = true
is_byte Many = true

abbrev pub are_bytes : List PatternPart → Bool
are_bytes pattern = list_all is_byte pattern
