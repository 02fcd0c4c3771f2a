-- What follows from the digits of a field.
use Rattle.std.proofs.Common.{◌≡◌, ℕ, Bool, ◌==◌, ◌+◌, ◌-◌, ◌^◌, ◌<◌, ◌≤◌, true, false, List, [], ◌∷◌, ◌++◌, length, get_or}
use Rattle.std.proofs.Common.{is_some, sym, ap, ◌∙◌, length-take-le}
use Rattle.std.proofs.Common.{take, drop, reverse, if◌then◌else◌, Some, refl, arith}
use Rattle.std.specs.List.{list_all}
use Rattle.std.specs.Char.{is_ascii_digit}
use Rattle.std.proofs.lemmas.Bool.{eq-eqb, le-leb, and_parts}
use Rattle.std.proofs.lemmas.Bool.Decides.{nat_tests}
use Rattle.std.proofs.lemmas.List.Elements.{All-from_get_or}
use Rattle.std.proofs.lemmas.List.Folds.{list_all-append}
use Rattle.std.proofs.lemmas.List.Sums.{list_all-from_AllPass}
use Rattle.std.proofs.lemmas.Simd.{get_or-chunk}
use Rattle.std.proofs.Math.Seq.{take-add}
use Rattle.std.specs.Simd.Lanes.{chunk}
use mathlib.Core.List.{reverse-cons}
use Rattle.std.proofs.lemmas.List.{drop-drop, get_or-drop, get_or-take, length-drop, length-reverse, length-take, reverse-reverse}
use Rattle.numerals.proofs.NumeralLemmas.{decimal_in-below}
use Rattle.tl_fields.specs.Field.{field_of}
use Rattle.tl_fields.specs.Number.{number_of, trim, without_blanks_before}

without_blanks_before-le_by : (b : ℕ) (bs : List ℕ) (t : Bool) → length (without_blanks_before bs) ≤ length bs
    → length (if t then without_blanks_before bs else b ∷ bs) ≤ length (b ∷ bs)
without_blanks_before-le_by b bs true short = omega arith
without_blanks_before-le_by b bs false short = omega arith

without_blanks_before-le : (bytes : List ℕ) → length (without_blanks_before bytes) ≤ length bytes
without_blanks_before-le [] = omega arith
without_blanks_before-le (b ∷ bs) = without_blanks_before-le_by b bs (b == 32) (without_blanks_before-le bs)

trim-le : (bytes : List ℕ) → length (trim bytes) ≤ length bytes
trim-le bytes =
    let front = without_blanks_before bytes in
    omega (
      arith,
      without_blanks_before-le bytes,
      without_blanks_before-le (reverse front),
      length-reverse front,
      length-reverse (without_blanks_before (reverse front)),
    )

number_of-short : (field : List ℕ) (k n : ℕ) → length field ≤ k → number_of field ≡ Some n → n < 10 ^ k
unfolding number_of
number_of-short field k n short e =
    rw e at (decimal_in-below 11 k (trim field) (λ fits. omega (arith, trim-le field)))

-- the number of a field has at most as many digits as the field has bytes
pub number_of_lt : (line : List ℕ) (first last n : ℕ) → number_of (field_of line first last) ≡ Some n → n < 10 ^ (last + 1 - first)
number_of_lt line first last n e =
    number_of-short (field_of line first last) (last + 1 - first) n
    (omega (arith, length-take (last + 1 - first) (drop (first - 1) line))) e

-- blanks in front of bytes are taken off
blanks_off : (bs ds : List ℕ) → list_all (λ b. b == 32) bs ≡ true → without_blanks_before (bs ++ ds) ≡ without_blanks_before ds
blanks_off [] ds all = refl
blanks_off (b ∷ bs) ds all =
    let parts = and_parts (b == 32) (list_all (λ b. b == 32) bs) all in
    rw (parts.0) (blanks_off bs ds parts.1)

-- what all bytes pass, they pass in reverse order
list_all-reverse : (p : ℕ → Bool) (ds : List ℕ) → list_all p ds ≡ true → list_all p (reverse ds) ≡ true
list_all-reverse p [] all = refl
list_all-reverse p (d ∷ ds) all =
    let parts = and_parts (p d) (list_all p ds) all in
    rw (reverse-cons d ds, list_all-append p (reverse ds) (d ∷ []), list_all-reverse p ds parts.1, parts.0) refl

-- nothing is taken off digits
digits_stay : (ds : List ℕ) → list_all is_ascii_digit ds ≡ true → without_blanks_before ds ≡ ds
digits_stay [] all = refl
digits_stay (d ∷ ds) all =
    let digit : is_ascii_digit d ≡ true = (and_parts (is_ascii_digit d) (list_all is_ascii_digit ds) all).0 in
    let other : (d == 32) ≡ false = grind (arith, nat_tests) in
    rw other refl

-- a field of blanks and then digits, of which there are 1 to 11, has a number
pub aligned_number : (bs ds : List ℕ) → list_all (λ b. b == 32) bs ≡ true → list_all is_ascii_digit ds ≡ true → 1 ≤ length ds → length ds ≤ 11
    → is_some (number_of (bs ++ ds)) ≡ true
unfolding number_of
aligned_number bs ds blanks digits some few =
    let front : without_blanks_before (bs ++ ds) ≡ ds = blanks_off bs ds blanks ∙ digits_stay ds digits in
    let back = digits_stay (reverse ds) (list_all-reverse is_ascii_digit ds digits) in
    let trimmed : trim (bs ++ ds) ≡ ds = rw (front, back) (reverse-reverse ds) in
    rw (trimmed, le-leb 1 (length ds) some, le-leb (length ds) 11 few, digits) refl

-- bytes of a line from a place on, if they pass a test in the vector that begins there
passes_leading : (p : ℕ → Bool) (line : List ℕ) (start count : ℕ) → start + 16 ≤ length line → count ≤ 16
    → ((k : ℕ) → k < count → p (get_or (chunk start 16 line) k 0) ≡ true) → list_all p (take count (drop start line)) ≡ true
passes_leading p line start count within lanes front =
    list_all-from_AllPass p (take count (drop start line)) (All-from_get_or (λ b. p b ≡ true) (take count (drop start line)) 0 (λ k inside.
    let low : k < count = omega (arith, length-take count (drop start line)) in
    let same = get_or-take count (drop start line) k 0 low ∙ get_or-drop start line k 0
    ∙ sym (get_or-chunk start 16 line k 0 (omega arith)) in
    ap p same ∙ front k low))

-- a field of blanks and then digits: the first bytes of the vectors that begin with each
pub record IsAlignedField (line : List ℕ) (start count blanks digits : ℕ) : Type 0 where
  pub within : start + 32 ≤ length line
  pub some : blanks < count
  pub ends : count - blanks ≤ digits
  pub few : count - blanks ≤ 11
  pub blanks_few : blanks ≤ 16
  pub digits_few : digits ≤ 16
  pub are_blanks : (k : ℕ) → k < blanks → get_or (chunk start 16 line) k 0 ≡ 32
  pub are_digits : (k : ℕ) → k < digits → is_ascii_digit (get_or (chunk (start + blanks) 16 line) k 0) ≡ true

pub aligned_field : (line : List ℕ) (start count blanks digits : ℕ) → IsAlignedField line start count blanks digits
    → is_some (number_of (take count (drop start line))) ≡ true
aligned_field line start count blanks digits is =
    let within = is.within in let some = is.some in let ends = is.ends in let few = is.few in let digits_few = is.digits_few in
    let bs = take blanks (drop start line) in
    let ds = take (count - blanks) (drop (start + blanks) line) in
    let whole : blanks + (count - blanks) ≡ count = omega arith in
    let parts : take count (drop start line) ≡ bs ++ ds =
    ap (λ n. take n (drop start line)) (sym whole) ∙ take-add blanks (count - blanks) (drop start line)
    ∙ ap (λ rest. bs ++ take (count - blanks) rest) (drop-drop blanks start line) in
    let long : length ds ≡ count - blanks =
    length-take-le (count - blanks) (drop (start + blanks) line) (omega (arith, length-drop (start + blanks) line)) in
    let left = passes_leading (λ b. b == 32) line start blanks (omega arith) is.blanks_few
    (λ k before. eq-eqb _ _ (is.are_blanks k before)) in
    let right = passes_leading is_ascii_digit line (start + blanks) (count - blanks) (omega arith) (omega arith)
    (λ k before. is.are_digits k (omega arith)) in
    rw parts (aligned_number bs ds left right (omega arith) (omega arith))
