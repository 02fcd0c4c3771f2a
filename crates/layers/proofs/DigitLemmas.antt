-- What passes digits, a minus sign and a decimal point passes numbers.
use Rattle.std.proofs.Common.{◌≡◌, ℕ, zero, suc, ◌+◌, ◌/◌, ◌%◌, ◌<◌, ◌==◌, ◌&&◌, Bool, true, false, ℤ, pos, negsuc, nat_abs, List, [], ◌∷◌, ◌++◌, decimal, refl, ap₂, ◌∙◌, inl, inr, arith}
use Rattle.std.proofs.lemmas.Bool.{cases_Bool, lt-ltb}
use Rattle.std.proofs.lemmas.List.Folds.{list_all-append}
use Rattle.std.specs.Fmt.{digit_glyph, digits, digits_onto}
use Rattle.std.specs.List.{list_all}
use Rattle.numerals.specs.Degrees.{degrees, sign, six_digits}

-- what passes two texts passes both of them
pub passes-append : (p : ℕ → Bool) (a b : List ℕ) → list_all p a ≡ true → list_all p b ≡ true → list_all p (a ++ b) ≡ true
passes-append p a b first second = list_all-append p a b ∙ ap₂ (λ x y. x && y) first second

module _ (p : ℕ → Bool) (minus : p 45 ≡ true) (point : p 46 ≡ true) (digit : (d : ℕ) → p (48 + d) ≡ true) where
  passes-digits_onto : (k n : ℕ) (after : List ℕ) → list_all p after ≡ true → list_all p (digits_onto k 10 false n after) ≡ true
  passes-digits_onto zero n after passed = passed
  passes-digits_onto (suc k) n after passed =
      let small : n % 10 < 10 = omega arith in
      let glyph : p (digit_glyph false (n % 10)) ≡ true = rw (lt-ltb (n % 10) 10 small) (digit (n % 10)) in
      let more : list_all p (digit_glyph false (n % 10) ∷ after) ≡ true = ap₂ (λ x y. x && y) glyph passed in
      elim (cases_Bool (n / 10 == 0)) [
        | inl last ↦ rw (last) more
        | inr other ↦ rw (other) (passes-digits_onto k (n / 10) (digit_glyph false (n % 10) ∷ after) more)
      ]

  pub passes-decimal : (n : ℕ) → list_all p (decimal n) ≡ true
  unfolding digits
  passes-decimal n = passes-digits_onto 64 n [] refl

  passes-six_digits : (n : ℕ) → list_all p (six_digits n) ≡ true
  passes-six_digits n =
      ap₂ (λ x y. x && y) (digit _) (ap₂ (λ x y. x && y) (digit _) (ap₂ (λ x y. x && y) (digit _) (ap₂ (λ x y. x && y) (digit _)
      (ap₂ (λ x y. x && y) (digit _) (ap₂ (λ x y. x && y) (digit _) refl)))))

  passes-sign : (z : ℤ) → list_all p (sign z) ≡ true
  passes-sign (pos n) = refl
  passes-sign (negsuc n) = ap₂ (λ x y. x && y) minus refl

  pub passes-degrees : (z : ℤ) → list_all p (degrees z) ≡ true
  unfolding degrees
  passes-degrees z =
      let whole = decimal (nat_abs z / 1000000) in
      passes-append p ((sign z ++ whole) ++ 46 ∷ []) (six_digits (nat_abs z % 1000000))
      (passes-append p (sign z ++ whole) (46 ∷ []) (passes-append p (sign z) whole (passes-sign z) (passes-decimal (nat_abs z / 1000000)))
      (ap₂ (λ x y. x && y) point refl)) (passes-six_digits (nat_abs z % 1000000))
