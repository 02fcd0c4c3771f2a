-- A port in digits.
use Rattle.std.proofs.Common.{◌≡◌, ◌≤◌, ◌<◌, ◌^◌, ◌∙◌, ◌&&◌, ap, arith, refl, length, ℕ, Bool, true, false, nat_le, List, [], ◌∷◌, Some, None, Result, Ok, Err, IfOk}
use Rattle.std.specs.Prelude.{if◌then◌else◌}
use Rattle.std.specs.List.{list_all}
use Rattle.std.specs.Char.{is_ascii_digit}
use Rattle.std.specs.Result.{OkIff}
use Rattle.std.specs.Str.Parse.{ParsesUnsigned, digits_value}
use Rattle.std.specs.Str.{all_ascii_digits}
use Rattle.std.proofs.lemmas.Bool.{leb-true}
use Rattle.std.proofs.lemmas.Str.Parse.{numerals_by_value, parse_digits, tells_all_ascii_digits}
use Rattle.command_line.specs.Values.{port_in}

same_test : (text : List ℕ) → all_ascii_digits text ≡ list_all is_ascii_digit text
same_test [] = refl
same_test (digit ∷ rest) = ap (λ (t : Bool). is_ascii_digit digit && t) (same_test rest)

no_port : (text : List ℕ) → (1 ≤ digits_value 10 text → digits_value 10 text ≤ 65_535 → ⊥) → port_in text ≡ None
no_port text outside = go (list_all is_ascii_digit text) (nat_le 1 (digits_value 10 text)) refl (nat_le (digits_value 10 text) 65_535) refl
  where
    go : (digits some : Bool) → nat_le 1 (digits_value 10 text) ≡ some → (few : Bool) → nat_le (digits_value 10 text) 65_535 ≡ few
        → (if digits && some && few then Some (digits_value 10 text) else None) ≡ None
    go true true is_some true is_few = absurd (outside (leb-true 1 (digits_value 10 text) is_some) (leb-true (digits_value 10 text) 65_535 is_few))
    go true true is_some false is_few = refl
    go true false is_some few is_few = refl
    go false some is_some few is_few = refl

has_digit : (text : List ℕ) → 1 ≤ digits_value 10 text → 0 < length text
has_digit [] some = absurd (omega arith)
has_digit (digit ∷ rest) some = omega arith

-- a text in digits that isn't parsed as a positive number of 16 bits
pub refused_port : {E : Type 0} → (text : List ℕ) (parsed : Result ℕ E) → list_all is_ascii_digit text ≡ true → ParsesUnsigned 16 10 text parsed
    → IfOk parsed (λ port. port ≤ 0) → port_in text ≡ None
refused_port {E} text parsed digits parses zero =
    go parsed zero (parse_digits (numerals_by_value _ tells_all_ascii_digits) 16 text parsed parses (same_test text ∙ digits))
  where
    go : (r : Result ℕ E) → IfOk r (λ port. port ≤ 0) → OkIff r ((0 < length text) × (digits_value 10 text < 2 ^ 16)) (digits_value 10 text) → port_in text ≡ None
    go (Ok port) none gives = no_port text (λ some few. omega (arith, gives.1, none))
    go (Err fault) none fails = no_port text (λ some few. fails (has_digit text some, omega arith))
