-- The coordinate of a field (TIGER/Line 2006, record type 1: longitudes and latitudes, with a sign and an implied decimal point before the
-- last six digits).
use Rattle.std.specs.Prelude.{ℕ, ℤ, pos, neg_ℤ, ◌==◌, if◌then◌else◌, List, drop, slice_index, Option, option_map}
use Rattle.numerals.specs.Numeral.{decimal_in}
use Rattle.tl_fields.specs.Number.{trim}

-- the amount with a minus sign
abbrev pub negative : ℕ → ℤ
negative amount = neg_ℤ (pos amount)

-- 1 to 9 digits with an optional leading minus (byte 45) or plus (byte 43): a whole number of millionths of a degree
abbrev pub coordinate_in : List ℕ → Option ℤ
coordinate_in text =
    if slice_index text 0 == 45 then option_map negative (decimal_in 9 (drop 1 text))
    else (if slice_index text 0 == 43 then option_map pos (decimal_in 9 (drop 1 text))
    else option_map pos (decimal_in 9 text))

-- the coordinate in a field, or none if the field has none
unfoldable pub coordinate_of : List ℕ → Option ℤ
coordinate_of field = coordinate_in (trim field)
