-- Decimal numerals: one or more digits from 0 to 9 (RFC 5234, appendix B.1: DIGIT), the most significant first. Leading zeros are allowed.
use Rattle.std.specs.Prelude.{ℕ, Bool, ◌&&◌, if◌then◌else◌, nat_le, List, length, Option, Some, None}
use Rattle.std.specs.List.{list_all}
use Rattle.std.specs.Char.{is_ascii_digit}
use Rattle.std.specs.Str.Parse.{digits_value}

-- at least one digit, at most `most` of them, and nothing else
abbrev pub is_decimal : ℕ → List ℕ → Bool
is_decimal most bytes = nat_le 1 (length bytes) && nat_le (length bytes) most && list_all is_ascii_digit bytes

-- the value of a decimal numeral of at most `most` digits, or none if the bytes are anything else
abbrev pub decimal_in : ℕ → List ℕ → Option ℕ
decimal_in most bytes = if is_decimal most bytes then Some (digits_value 10 bytes) else None
