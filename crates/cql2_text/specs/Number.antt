-- The values of numericLiterals.
use Rattle.std.specs.Prelude.{ℕ, ℤ, pos, neg_ℤ, ◌+◌, ◌-◌, ◌*◌, ◌%◌, ◌^◌, ◌==◌, Bool, false, not, ◌&&◌, ◌||◌, nat_le, nat_lt, if◌then◌else◌, Option, Some, None}
use Rattle.std.specs.Prelude.{List, [], ◌∷◌, length, take, drop}
use Rattle.std.specs.Prelude.{Result, Ok, Err}
use Rattle.std.specs.List.{list_all}
use Rattle.numerals.specs.Numeral.{decimal_in}
use Rattle.tl_segments.specs.declared.limits.TheConstants.{MAX_NAMES}
use Rattle.cql2_text.specs.declared.fault.FilterFaultKind.{FilterFaultKind}
use Rattle.cql2_text.specs.declared.fault.FilterFaultKind.TheVariants.{WrongType, NumberRange}
use Rattle.cql2_text.specs.declared.unit.Unit.{Unit}
use Rattle.cql2_text.specs.declared.unit.Unit.TheVariants.{Whole, Degrees, Femtodegrees}
use Rattle.cql2_tokens.specs.declared.token.Numeral.{Numeral}

abbrev pub signed_number : Bool → ℕ → ℤ
signed_number is_negative amount = if is_negative then neg_ℤ (pos amount) else pos amount

-- the absolute value of a whole number, which has up to 18 digits and no fraction
abbrev pub in_range : Option ℕ → Result ℕ FilterFaultKind
in_range (Some amount) = Ok amount
in_range None = Err NumberRange

abbrev pub whole_amount : ℕ → List ℕ → List ℕ → Result ℕ FilterFaultKind
whole_amount most whole [] = in_range (decimal_in most whole)
whole_amount most whole (digit ∷ decimals) = Err WrongType

-- A coordinate has at most six decimals, and counts in millionths of a degree; a bound of a box has at most 15, and counts in femtodegrees.

-- decimals in units of the last one that there may be
abbrev pub parts_of : ℕ → List ℕ → Option ℕ
parts_of most [] = Some 0
parts_of most (digit ∷ decimals) =
    elim (decimal_in most (digit ∷ decimals)) [ Some parts ↦ Some (parts * 10 ^ (most - length (digit ∷ decimals))) | None ↦ None ]

-- there are less than 1000 degrees
abbrev pub with_parts : ℕ → Option ℕ → Option ℕ → Result ℕ FilterFaultKind
with_parts most (Some degrees) (Some parts) = if nat_lt degrees 1000 then Ok (degrees * 10 ^ most + parts) else Err NumberRange
with_parts most (Some degrees) None = Err NumberRange
with_parts most None parts = Err NumberRange

abbrev pub degrees_amount : ℕ → List ℕ → List ℕ → Result ℕ FilterFaultKind
degrees_amount most whole decimals = with_parts most (decimal_in 18 whole) (parts_of most decimals)

abbrev pub amount_of : Unit → Numeral → Result ℕ FilterFaultKind
amount_of Whole numeral = whole_amount 18 numeral.whole.now numeral.decimals.now
amount_of Degrees numeral = degrees_amount 6 numeral.whole.now numeral.decimals.now
amount_of Femtodegrees numeral = degrees_amount 15 numeral.whole.now numeral.decimals.now

abbrev pub signed_by : Bool → Result ℕ FilterFaultKind → Result ℤ FilterFaultKind
signed_by is_negative (Ok amount) = Ok (signed_number is_negative amount)
signed_by is_negative (Err flaw) = Err flaw

-- the value of a numeral in a unit
abbrev pub number_of : Unit → Numeral → Result ℤ FilterFaultKind
number_of unit numeral = signed_by numeral.is_negative (amount_of unit numeral)

-- a nonnegative numeral without a fraction and with a limited number of digits
abbrev pub count_of : ℕ → Numeral → Result ℕ FilterFaultKind
count_of most numeral =
    elim (whole_amount most numeral.whole.now numeral.decimals.now) [
      | Ok amount ↦ (if numeral.is_negative then Err NumberRange else Ok amount)
      | Err flaw ↦ Err flaw
    ]

-- a house number has up to 11 digits
abbrev pub house_number_of : Numeral → Result ℕ FilterFaultKind
house_number_of numeral = count_of 11 numeral

-- as many alternate names can be checked as a segment can have
abbrev pub up_to_name_limit : Result ℕ FilterFaultKind → Result ℕ FilterFaultKind
up_to_name_limit (Ok amount) = if nat_le amount MAX_NAMES then Ok amount else Err NumberRange
up_to_name_limit (Err flaw) = Err flaw

abbrev pub name_limit_of : Numeral → Result ℕ FilterFaultKind
name_limit_of numeral = up_to_name_limit (count_of 18 numeral)

-- Coordinates of vertices, with any number of decimals. Those after the sixth lie between two millionths: the nearer one counts, and of two as near
-- the even one.

abbrev pub is_zero : ℕ → Bool
is_zero digit = digit == 48

abbrev pub is_half : List ℕ → Bool
is_half [] = false
is_half (digit ∷ decimals) = digit == 53 && list_all is_zero decimals

abbrev pub is_more_than_half : List ℕ → Bool
is_more_than_half [] = false
is_more_than_half (digit ∷ decimals) = nat_lt 53 digit || (digit == 53 && not (list_all is_zero decimals))

abbrev pub is_odd : ℕ → Bool
is_odd number = number % 2 == 1

abbrev pub nearest : ℕ → List ℕ → ℕ
nearest amount further = if is_more_than_half further || is_half further && is_odd amount then amount + 1 else amount

-- a rounded coordinate is below 1000 degrees, too
abbrev pub rounded : Result ℕ FilterFaultKind → List ℕ → Result ℕ FilterFaultKind
rounded (Ok amount) further = if nat_lt (nearest amount further) 1000000000 then Ok (nearest amount further) else Err NumberRange
rounded (Err flaw) further = Err flaw

abbrev pub rounded_amount : Numeral → Result ℕ FilterFaultKind
rounded_amount numeral = rounded (degrees_amount 6 numeral.whole.now (take 6 numeral.decimals.now)) (drop 6 numeral.decimals.now)

-- the coordinate of a vertex, in millionths of a degree
abbrev pub coordinate_of : Numeral → Result ℤ FilterFaultKind
coordinate_of numeral = signed_by numeral.is_negative (rounded_amount numeral)
