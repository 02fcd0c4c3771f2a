-- Decimal degrees with six decimals, read as millionths of a degree.
use Rattle.std.specs.Prelude.{ℕ, ◌+◌, ◌-◌, ◌*◌, ◌^◌, Bool, ◌==◌, nat_lt, ◌&&◌, ℤ, pos, neg_ℤ, if◌then◌else◌, List, length, take, drop, slice_index, Option, Some, None, option_map}
use Rattle.std.specs.Str.{all_ascii_digits}
use Rattle.std.specs.Str.Parse.{digits_value}

-- the digits before the decimal point, which is the seventh byte from the end, and those after it
abbrev pub whole : List ℕ → List ℕ
whole text = take (length text - 7) text

abbrev pub decimals : List ℕ → List ℕ
decimals text = drop (length text - 6) text

-- the decimal point has at least one digit before it and six after it
abbrev pub has_six_decimals : List ℕ → Bool
has_six_decimals text =
    nat_lt 7 (length text) && slice_index text (length text - 7) == 46 && all_ascii_digits (whole text) && all_ascii_digits (decimals text)

-- the millionths of a text without a sign; none if it doesn't have six decimals
abbrev pub unsigned_in : List ℕ → Option ℕ
unsigned_in text = if has_six_decimals text then Some (digits_value 10 (whole text) * 10 ^ 6 + digits_value 10 (decimals text)) else None

-- the same, with a minus sign (byte 45) or without a sign
abbrev pub millionths_in : List ℕ → Option ℤ
millionths_in text =
    if slice_index text 0 == 45 then option_map (λ size. neg_ℤ (pos size)) (unsigned_in (drop 1 text)) else option_map pos (unsigned_in text)
