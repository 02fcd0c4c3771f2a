-- Texts as bytes: their order, and which of them a filter can hold.
use Rattle.std.specs.Prelude.{ℕ, Bool, true, false, ◌&&◌, ◌||◌, ◌==◌, not, nat_le, nat_lt, List, [], ◌∷◌, length}
use Rattle.std.specs.List.{list_all}
use Rattle.tl_segments.specs.declared.name.TheConstants.{NAME_LENGTH}

-- the last byte is not a blank
abbrev pub ends_filled : List ℕ → Bool
ends_filled [] = false
ends_filled (byte ∷ []) = not (byte == 32)
ends_filled (byte ∷ next ∷ bytes) = ends_filled (next ∷ bytes)

-- no control characters, no more bytes than a name has, and a last byte that is not a blank
abbrev pub is_text : List ℕ → Bool
is_text bytes = list_all (λ byte. nat_le 32 byte && nat_lt byte 256) bytes && nat_le (length bytes) NAME_LENGTH && ends_filled bytes

abbrev pub is_same : List ℕ → List ℕ → Bool
is_same [] [] = true
is_same [] (byte ∷ other) = false
is_same (byte ∷ text) [] = false
is_same (byte ∷ text) (wanted ∷ other) = byte == wanted && is_same text other

-- one text is less than another, byte by byte; a prefix is less than the whole
abbrev pub is_less : List ℕ → List ℕ → Bool
is_less text [] = false
is_less [] (byte ∷ other) = true
is_less (byte ∷ text) (wanted ∷ other) = nat_lt byte wanted || byte == wanted && is_less text other
