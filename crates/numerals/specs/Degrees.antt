-- Coordinates in human-readable form: decimal degrees (TIGER/Line 2006 has millionths of a degree).
use Rattle.std.specs.Prelude.{ℕ, ◌+◌, ◌/◌, ◌%◌, ◌^◌, ℤ, pos, negsuc, nat_abs, List, [], ◌∷◌, ◌++◌, map, codes, decimal}

-- a minus sign, or nothing
abbrev pub sign : ℤ → List ℕ
sign (pos n) = []
sign (negsuc n) = codes "-"

-- the last digit of a number
abbrev pub digit : ℕ → ℕ
digit number = 48 + number % 10

-- the last six digits of a number, with leading zeros
abbrev pub six_digits : ℕ → List ℕ
six_digits number = map (λ place. digit (number / 10 ^ place)) (5 ∷ 4 ∷ 3 ∷ 2 ∷ 1 ∷ 0 ∷ [])

-- whole degrees, a decimal point and six decimals
unfoldable pub degrees : ℤ → List ℕ
degrees coordinate = sign coordinate ++ decimal (nat_abs coordinate / 10 ^ 6) ++ codes "." ++ six_digits (nat_abs coordinate % 10 ^ 6)
