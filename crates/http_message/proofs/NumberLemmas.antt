-- The number that digits denote, while they are read.
use Rattle.std.proofs.Common.{◌≡◌, ℕ, ◌<◌, true, List, length, get_or, take, Err, refl, arith}
use Rattle.std.specs.List.{list_all}
use Rattle.std.specs.Char.{is_ascii_digit}
use Rattle.std.specs.Str.Parse.{digits_value}
use Rattle.std.proofs.lemmas.Bool.{lt-leb}
use Rattle.std.proofs.lemmas.List.Sums.{AllPass-from_list_all}
use Rattle.std.proofs.lemmas.Str.Parse.{digits_value-take-le}
use Rattle.http_message.specs.Length.{up_to_limit}
use Rattle.http_message.specs.declared.length.LengthFault.TheVariants.{TooLarge}

pub digit_at : (digits : List ℕ) (i : ℕ) → list_all is_ascii_digit digits ≡ true → i < length digits
    → is_ascii_digit (get_or digits i 0) ≡ true
digit_at digits i all inside = AllPass-from_list_all is_ascii_digit digits all i 0 inside

-- if the first digits denote too large a number, so do all of them
pub up_to_limit-large : (digits : List ℕ) (i value : ℕ) → value ≡ digits_value 10 (take i digits) → 1048576 < value
    → Err TooLarge ≡ up_to_limit (digits_value 10 digits)
up_to_limit-large digits i value is large =
    let over : 1048576 < digits_value 10 digits = omega (arith, digits_value-take-le 10 digits i (omega arith)) in
    rw (lt-leb _ _ over) refl
