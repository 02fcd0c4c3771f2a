-- Job ids in paths.
use Rattle.std.proofs.Common.{◌≡◌, ℕ, ◌<◌, ◌≤◌, ◌^◌, Bool, true, false, cond, List, ◌++◌, ◌&&◌, length, Ok, Err, None, Some, refl, sym}
use Rattle.std.proofs.Common.{arith, rules, ◌∙◌}
use Rattle.std.specs.Char.{is_ascii_digit}
use Rattle.std.specs.List.{list_all}
use Rattle.std.specs.Prelude.{Result, codes, nat_lt, nat_le}
use Rattle.std.specs.Result.{result_ok}
use Rattle.std.specs.Str.Parse.{ParsesUnsigned, digits_value}
use Rattle.std.proofs.lemmas.Bool.Decides.{nat_tests}
use Rattle.std.proofs.lemmas.Str.Parse.{IsDigitsTest, IsNumeralModel, numerals_by_value, parse_digits}
use Rattle.http_message.specs.Target.{id_of, job_id}

pub job_path : (path text : List ℕ) → path ≡ codes "/jobs/" ++ text → job_id path ≡ id_of text
job_path path text is = rw is refl

-- the tests that an id passes
id_by_tests : (text : List ℕ) {digits : Bool} (some short small : Bool) → nat_le 1 (length text) ≡ some → nat_le (length text) 20 ≡ short
    → list_all is_ascii_digit text ≡ digits → nat_lt (digits_value 10 text) (2 ^ 64) ≡ small
    → id_of text ≡ cond (some && short && digits && small) (Some (digits_value 10 text)) None
id_by_tests text some short small some_is short_is digits_is small_is = rw (some_is, short_is, digits_is, small_is) refl

pub id_too_long : (text : List ℕ) → 20 < length text → id_of text ≡ None
id_too_long text long = id_by_tests text _ false _ refl (grind (arith, nat_tests)) refl refl ∙ by_some (nat_le 1 (length text))
  where
    by_some : (some : Bool) → cond (some && false && list_all is_ascii_digit text && nat_lt (digits_value 10 text) (2 ^ 64))
        (Some (digits_value 10 text)) None ≡ None
    by_some true = refl
    by_some false = refl

pub id_not_digits : (text : List ℕ) → list_all is_ascii_digit text ≡ false → id_of text ≡ None
id_not_digits text other = id_by_tests text _ _ _ refl refl other refl ∙ by_length (nat_le 1 (length text)) (nat_le (length text) 20)
  where
    by_length : (some short : Bool) → cond (some && short && false && nat_lt (digits_value 10 text) (2 ^ 64))
        (Some (digits_value 10 text)) None ≡ None
    by_length true true = refl
    by_length true false = refl
    by_length false short = refl

digits_test : IsDigitsTest (λ text. list_all is_ascii_digit text ≡ true)
digits_test = search rules

numerals : IsNumeralModel (λ text. list_all is_ascii_digit text ≡ true) (digits_value 10)
numerals = numerals_by_value (λ text. list_all is_ascii_digit text ≡ true) digits_test

pub id_parsed : {E : Type 0} (text : List ℕ) (result : Result ℕ E) → ParsesUnsigned 64 10 text result → list_all is_ascii_digit text ≡ true
    → length text ≤ 20 → result_ok result ≡ id_of text
id_parsed {E = E} text (Ok number) parses digits short =
    let is : ((0 < length text) × (digits_value 10 text < 2 ^ 64)) × (number ≡ digits_value 10 text) =
    parse_digits numerals {E = E} 64 text (Ok number) parses digits in
    let some = is.0.0 in
    let small = is.0.1 in
    rw is.1 (sym (id_by_tests text true true true (grind (arith, nat_tests)) (grind (arith, nat_tests)) digits (grind (arith, nat_tests))))
id_parsed {E = E} text (Err error) parses digits short =
    let is_not : ((0 < length text) × (digits_value 10 text < 2 ^ 64)) → ⊥ =
    parse_digits numerals {E = E} 64 text (Err error) parses digits in
    by_tests (nat_le 1 (length text)) (nat_lt (digits_value 10 text) (2 ^ 64)) refl refl is_not
  where
    by_tests : (some small : Bool) → nat_le 1 (length text) ≡ some → nat_lt (digits_value 10 text) (2 ^ 64) ≡ small
        → (((0 < length text) × (digits_value 10 text < 2 ^ 64)) → ⊥) → None ≡ id_of text
    by_tests true true some_is small_is is_not = absurd (is_not (grind (arith, nat_tests), grind (arith, nat_tests)))
    by_tests true false some_is small_is is_not = sym (id_by_tests text true true false some_is (grind (arith, nat_tests)) digits small_is)
    by_tests false small some_is small_is is_not =
        sym (id_by_tests text false true small some_is (grind (arith, nat_tests)) digits small_is)
