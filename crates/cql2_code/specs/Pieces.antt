-- Patterns in pieces: cut at each `%`.
use Rattle.std.specs.Prelude.{ℕ, suc, Bool, true, false, List, [], ◌∷◌}
use Rattle.cql2.specs.declared.pattern.PatternPart.{PatternPart}
use Rattle.cql2.specs.declared.pattern.PatternPart.TheVariants.{Many}

-- what comes before the first `%`, the pieces after a `%` that have a part, and whether the pattern ends in `%`
pub record Pieces : Type 0 where
  pub first : List PatternPart
  pub others : List (List PatternPart)
  pub is_open : Bool

-- `%` before a piece and others
abbrev pub following_many : List PatternPart → List (List PatternPart) → Bool → Pieces
following_many [] [] is_open = record { first = []; others = []; is_open = true }
following_many [] (piece ∷ others) is_open = record { first = []; others = piece ∷ others; is_open = is_open }
following_many (part ∷ piece) others is_open = record { first = []; others = (part ∷ piece) ∷ others; is_open = is_open }

abbrev pub pieces_of : List PatternPart → Pieces
pieces_of [] = record { first = []; others = []; is_open = false }
pieces_of (Many ∷ pattern) = let rest = pieces_of pattern in following_many rest.first rest.others rest.is_open
pieces_of (part ∷ pattern) = let rest = pieces_of pattern in record rest { first = part ∷ rest.first }

-- the number of bytes that a pattern takes at least
abbrev pub least_length : List PatternPart → ℕ
least_length [] = 0
least_length (Many ∷ pattern) = least_length pattern
least_length (part ∷ pattern) = suc (least_length pattern)
