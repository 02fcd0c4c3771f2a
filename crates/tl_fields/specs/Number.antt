-- The number of a field (TIGER/Line 2006, record layouts: identification numbers, codes and addresses).
use Rattle.std.specs.Prelude.{ℕ, Bool, ◌==◌, if◌then◌else◌, List, [], ◌∷◌, reverse, Option}
use Rattle.std.specs.List.{list_all}
use Rattle.numerals.specs.Numeral.{decimal_in}

-- the bytes without leading blanks; a blank is the byte 32
abbrev pub without_blanks_before : List ℕ → List ℕ
without_blanks_before [] = []
without_blanks_before (b ∷ bs) = if b == 32 then without_blanks_before bs else b ∷ bs

-- all bytes are blanks
abbrev pub is_blank : List ℕ → Bool
is_blank bytes = list_all (λ b. b == 32) bytes

-- the bytes without leading and trailing blanks
abbrev pub trim : List ℕ → List ℕ
trim bytes = reverse (without_blanks_before (reverse (without_blanks_before bytes)))

-- the number in a field, of at most 11 digits, or none if the field has none
unfoldable pub number_of : List ℕ → Option ℕ
number_of field = decimal_in 11 (trim field)
