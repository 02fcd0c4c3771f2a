-- Numbers in program text.
use Rattle.std.specs.Prelude.{ℕ, ℤ, pos, neg_ℤ, ◌≤ℤ◌, ◌<ℤ◌, Bool, ◌&&◌, ◌==◌, ◌^◌, nat_lt, nat_le, if◌then◌else◌, List, length, drop, slice_index, Result, Ok}
use Rattle.std.specs.Prelude.{Err}
use Rattle.std.specs.List.{list_all}
use Rattle.std.specs.Char.{digit_value}
use Rattle.std.specs.Int.{cast_signed, w32}
use Rattle.std.specs.Str.Parse.{digits_value}
use Rattle.bpf_assembler.specs.declared.fault.TextFaultKind.{TextFaultKind}
use Rattle.bpf_assembler.specs.declared.fault.TextFaultKind.TheVariants.{Syntax, NumberRange}

-- the next step's result if there is a value, otherwise the fault
abbrev pub and_then : {A B : Type 0} → Result A TextFaultKind → (A → Result B TextFaultKind) → Result B TextFaultKind
and_then (Ok value) next = next value
and_then (Err fault) next = Err fault

-- a digit in a radix
abbrev pub is_digit : ℕ → ℕ → Bool
is_digit radix byte = nat_lt (digit_value byte) radix

-- at least one digit, and at most a given number of digits
abbrev pub is_number : ℕ → ℕ → List ℕ → Bool
is_number radix most digits = nat_le 1 (length digits) && nat_le (length digits) most && list_all (is_digit radix) digits

-- the number that digits denote
abbrev pub number_in : ℕ → ℕ → List ℕ → Result ℕ TextFaultKind
number_in radix most digits = if is_number radix most digits then Ok (digits_value radix digits) else Err Syntax

-- decimal numbers have up to 20 digits
abbrev pub decimal_in : List ℕ → Result ℕ TextFaultKind
decimal_in digits = number_in 10 20 digits

-- numbers in two's complement with a given number of bits; the limit, 2^(bits-1), is one past the greatest number and the magnitude of the least
-- one
abbrev pub positive : ℕ → ℕ → Result ℤ TextFaultKind
positive limit amount = if nat_lt amount limit then Ok (pos amount) else Err NumberRange

abbrev pub negative : ℕ → ℕ → Result ℤ TextFaultKind
negative limit amount = if nat_le amount limit then Ok (neg_ℤ (pos amount)) else Err NumberRange

-- the limits for 16 and for 32 bits
abbrev pub limit_of_16_bits : ℕ
limit_of_16_bits = 2 ^ 15

abbrev pub limit_of_32_bits : ℕ
limit_of_32_bits = 2 ^ 31

-- at least the negated limit, and below the limit
abbrev pub IsWithin : ℕ → ℤ → Type 0
IsWithin limit value = (neg_ℤ (pos limit) ≤ℤ value) × (value <ℤ pos limit)

-- a decimal number with its sign, `+` or `-`
abbrev pub signed_in : ℕ → List ℕ → Result ℤ TextFaultKind
signed_in limit text =
    if slice_index text 0 == 43 then and_then (decimal_in (drop 1 text)) (positive limit)
    else (if slice_index text 0 == 45 then and_then (decimal_in (drop 1 text)) (negative limit) else Err Syntax)

-- `0x` begins a hexadecimal number
abbrev pub is_hexadecimal : List ℕ → Bool
is_hexadecimal text = slice_index text 0 == 48 && slice_index text 1 == 120

-- an immediate: a decimal number with an optional minus sign, or 32 bits as up to 8 hexadecimal digits
abbrev pub immediate_in : List ℕ → Result ℤ TextFaultKind
immediate_in text =
    if is_hexadecimal text then and_then (number_in 16 8 (drop 2 text)) (λ bits. Ok (cast_signed w32 bits))
    else (if slice_index text 0 == 45 then and_then (decimal_in (drop 1 text)) (negative limit_of_32_bits)
    else and_then (decimal_in text) (positive limit_of_32_bits))

-- the number of a wide load, without a sign: a decimal number below 2^64, or up to 16 hexadecimal digits
abbrev pub below_64_bits : ℕ → Result ℕ TextFaultKind
below_64_bits number = if nat_lt number (2 ^ 64) then Ok number else Err NumberRange

abbrev pub wide_in : List ℕ → Result ℕ TextFaultKind
wide_in text =
    if is_hexadecimal text then number_in 16 16 (drop 2 text) else and_then (decimal_in text) below_64_bits
