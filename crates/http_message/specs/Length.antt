-- The announced length of a request's body (RFC 9112, section 6; RFC 9110, section 8.6).
use Rattle.std.specs.Prelude.{ℕ, nat_lt, nat_le, Bool, ◌&&◌, if◌then◌else◌, List, [], ◌∷◌, length, map, filter, codes, Result, Ok, Err}
use Rattle.std.specs.Str.{str_eq_ignore_ascii_case}
use Rattle.std.specs.Char.{is_ascii_digit}
use Rattle.std.specs.List.{list_all, list_any}
use Rattle.std.specs.Str.Parse.{digits_value}
use Rattle.http_message.specs.Head.{Head}
use Rattle.http_message.specs.declared.length.LengthFault.{LengthFault}
use Rattle.http_message.specs.declared.length.LengthFault.TheVariants.{Missing, Invalid, TooLarge}
use Rattle.http_message.specs.declared.length.TheConstants.{MAX_BODY_LENGTH}

-- header names are compared without regard to case (RFC 9110, section 5.1)
abbrev pub is_named : List ℕ → List ℕ × List ℕ → Bool
is_named name header = str_eq_ignore_ascii_case header.0 name

-- the values of the headers with this name, in order
abbrev pub values_of : List ℕ → Head → List (List ℕ)
values_of name head = map (λ header. header.1) (filter (is_named name) head.headers)

-- a number up to the limit
abbrev pub up_to_limit : ℕ → Result ℕ LengthFault
up_to_limit number = if nat_le number MAX_BODY_LENGTH then Ok number else Err TooLarge

-- at least one digit, and nothing else
abbrev pub is_numeral : List ℕ → Bool
is_numeral value = nat_lt 0 (length value) && list_all is_ascii_digit value

-- the length in a header's value
abbrev pub length_of : List ℕ → Result ℕ LengthFault
length_of value = if is_numeral value then up_to_limit (digits_value 10 value) else Err Invalid

-- the length in the values of the Content-Length headers: exactly one header is required, and two are invalid even if equal
abbrev pub announced : List (List ℕ) → Result ℕ LengthFault
announced [] = Err Missing
announced (value ∷ []) = length_of value
announced (value ∷ other ∷ values) = Err Invalid

-- A body in a transfer coding isn't accepted, whatever its length.
abbrev pub body_length : Head → Result ℕ LengthFault
body_length head =
    if list_any (is_named (codes "transfer-encoding")) head.headers then Err Missing
    else announced (values_of (codes "content-length") head)
