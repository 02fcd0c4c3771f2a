-- Texts without trailing blanks.
use Rattle.std.proofs.Common.{◌≡◌, ℕ, ◌≤◌, Bool, true, false, ◌&&◌, ◌==◌, nat_le, nat_lt, List, [], ◌∷◌, ◌++◌, length, reverse, refl}
use Rattle.std.proofs.Common.{subst, arith, if◌then◌else◌}
use Rattle.std.specs.List.{list_all}
use Rattle.std.proofs.lemmas.Bool.{and_parts, le-leb}
use Rattle.std.proofs.lemmas.Bool.Decides.{nat_tests}
use Rattle.std.proofs.lemmas.List.{reverse-append}
use Rattle.std.proofs.lemmas.List.Folds.{list_all-append}
use Rattle.tl_fields.specs.Number.{without_blanks_before}
use Rattle.tl_segments.specs.declared.name.TheConstants.{NAME_LENGTH}
use Rattle.cql2.specs.Column.{trim_end}
use Rattle.cql2.specs.Text.{ends_filled, is_text}
use Rattle.cql2_tokens.specs.Character.{is_character}

abbrev is_printable : ℕ → Bool
is_printable byte = nat_le 32 byte && nat_lt byte 256

printable : (byte : ℕ) → is_character byte ≡ true → is_printable byte ≡ true
printable byte is = grind (arith, nat_tests)

all-printable : (bytes : List ℕ) → list_all is_character bytes ≡ true → list_all is_printable bytes ≡ true
all-printable [] all = refl
all-printable (byte ∷ bytes) all =
    let parts = and_parts (is_character byte) (list_all is_character bytes) all in
    rw (printable byte parts.0, all-printable bytes parts.1) refl

all-without-by : (p : ℕ → Bool) (byte : ℕ) (bytes : List ℕ) (test : Bool) → list_all p (byte ∷ bytes) ≡ true
    → list_all p (without_blanks_before bytes) ≡ true → list_all p (if test then without_blanks_before bytes else byte ∷ bytes) ≡ true
all-without-by p byte bytes true all later = later
all-without-by p byte bytes false all later = all

all-without : (p : ℕ → Bool) (bytes : List ℕ) → list_all p bytes ≡ true → list_all p (without_blanks_before bytes) ≡ true
all-without p [] all = refl
all-without p (byte ∷ bytes) all =
    let parts = and_parts (p byte) (list_all p bytes) all in
    all-without-by p byte bytes (byte == 32) all (all-without p bytes parts.1)

reverse-cons : (byte : ℕ) (bytes : List ℕ) → reverse (byte ∷ bytes) ≡ reverse bytes ++ byte ∷ []
reverse-cons byte bytes = reverse-append (byte ∷ []) bytes

all-reverse : (p : ℕ → Bool) (bytes : List ℕ) → list_all p bytes ≡ true → list_all p (reverse bytes) ≡ true
all-reverse p [] all = refl
all-reverse p (byte ∷ bytes) all =
    let parts = and_parts (p byte) (list_all p bytes) all in
    rw (reverse-cons byte bytes, list_all-append p (reverse bytes) (byte ∷ []), all-reverse p bytes parts.1, parts.0) refl

all-trimmed : (p : ℕ → Bool) (bytes : List ℕ) → list_all p bytes ≡ true → list_all p (trim_end bytes) ≡ true
all-trimmed p bytes all = all-reverse p (without_blanks_before (reverse bytes)) (all-without p (reverse bytes) (all-reverse p bytes all))

front-filled-by : (first : ℕ) (rest : List ℕ) (byte : ℕ) (bytes : List ℕ) (test : Bool) → (first == 32) ≡ test
    → (without_blanks_before rest ≡ byte ∷ bytes → (byte == 32) ≡ false)
    → (if test then without_blanks_before rest else first ∷ rest) ≡ byte ∷ bytes → (byte == 32) ≡ false
front-filled-by first rest byte bytes true is later given = later given
front-filled-by first rest byte bytes false is later given =
    let same : first ≡ byte = cc in subst (λ b. (b == 32) ≡ false) same is

front-filled : (bytes : List ℕ) (byte : ℕ) (rest : List ℕ) → without_blanks_before bytes ≡ byte ∷ rest → (byte == 32) ≡ false
front-filled [] byte rest given = cc
front-filled (first ∷ bytes) byte rest given =
    front-filled-by first bytes byte rest (first == 32) refl (front-filled bytes byte rest) given

ends-filled-more : (bytes : List ℕ) (byte : ℕ) → (byte == 32) ≡ false → ends_filled (bytes ++ byte ∷ []) ≡ true
ends-filled-more [] byte filled = rw filled refl
ends-filled-more (first ∷ []) byte filled = rw filled refl
ends-filled-more (first ∷ second ∷ bytes) byte filled = ends-filled-more (second ∷ bytes) byte filled

ends-filled-reverse : (front bytes : List ℕ) → without_blanks_before bytes ≡ front → 1 ≤ length (reverse front)
    → ends_filled (reverse front) ≡ true
ends-filled-reverse [] bytes is some = absurd (omega arith)
ends-filled-reverse (byte ∷ rest) bytes is some =
    rw (reverse-cons byte rest) (ends-filled-more (reverse rest) byte (front-filled bytes byte rest is))

-- a text that is compared with a column is one that a filter can hold
pub text-is : (bytes : List ℕ) → list_all is_character bytes ≡ true → 1 ≤ length (trim_end bytes) → length (trim_end bytes) ≤ NAME_LENGTH
    → is_text (trim_end bytes) ≡ true
text-is bytes all some few =
    let printed = all-trimmed is_printable bytes (all-printable bytes all) in
    let short : nat_le (length (trim_end bytes)) NAME_LENGTH ≡ true = le-leb _ _ few in
    let filled = ends-filled-reverse (without_blanks_before (reverse bytes)) (reverse bytes) refl some in
    rw (printed, short, filled) refl

pub text-items : (items bytes trimmed : List ℕ) → items ≡ trimmed → trimmed ≡ trim_end bytes → list_all is_character bytes ≡ true
    → 1 ≤ length trimmed → length trimmed ≤ NAME_LENGTH → is_text items ≡ true
text-items items bytes trimmed same is all some few = rw (same, is) (text-is bytes all (rw is at some) (rw is at few))
