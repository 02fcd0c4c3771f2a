-- The side of a line on which a corner of a box lies, in femtodegrees, by the whole millionths of the corner's coordinates and by their rests.
use Rattle.std.proofs.Common.{◌≡◌, ℕ, zero, suc, ◌^◌, ℤ, pos, Bool, true, false, refl, sym, ap, ◌∙◌, arith}
use Rattle.std.specs.Prelude.{◌+ℤ◌, ◌-ℤ◌, ◌*ℤ◌, ◌≤ℤ◌, ◌<ℤ◌, int_lt}
use Rattle.std.proofs.lemmas.Int.{ints}
use Rattle.std.proofs.Math.IntN.{*ℤ-zero, *ℤ_comm, suc_ℤ-*ℤ, zero-*ℤ}
use borrow.Author.Differences.{false_is_lt, true_is_lt}
use Rattle.cql2.specs.Femtodegrees.{in_femtodegrees}
use Rattle.cql2.specs.Geometry.{Edge, Point, corner, eastward, finer_edge, is_left, is_right, northward}
use Rattle.cql2.specs.declared.geometry.Bound.{Bound}
use Rattle.cql2.proofs.Products.{add-mul, mul-add}
use Rattle.cql2.proofs.Sides.{across, left_is, right_is}

-- products with a number of femtodegrees

one_factor_more : (a : ℤ) (n : ℕ) → a *ℤ pos (suc n) ≡ a *ℤ pos n +ℤ a
one_factor_more a n = *ℤ_comm a (pos (suc n)) ∙ suc_ℤ-*ℤ (pos n) a ∙ ap (λ (z : ℤ). z +ℤ a) (*ℤ_comm (pos n) a)

factors_exchanged : (a b : ℤ) (n : ℕ) → (a *ℤ pos n) *ℤ b ≡ (a *ℤ b) *ℤ pos n
factors_exchanged a b zero = ap (λ (z : ℤ). z *ℤ b) (*ℤ-zero a) ∙ zero-*ℤ b ∙ sym (*ℤ-zero (a *ℤ b))
factors_exchanged a b (suc n) =
    ap (λ (z : ℤ). z *ℤ b) (one_factor_more a n) ∙ add-mul (a *ℤ pos n) a b ∙ ap (λ (z : ℤ). z +ℤ a *ℤ b) (factors_exchanged a b n)
    ∙ sym (one_factor_more (a *ℤ b) n)

product_is : (a millionths : ℤ) (rest : ℕ)
    → (a *ℤ pos (10 ^ 9)) *ℤ in_femtodegrees millionths rest ≡ ((a *ℤ millionths) *ℤ pos (10 ^ 9) +ℤ a *ℤ pos rest) *ℤ pos (10 ^ 9)
product_is a millionths rest =
    factors_exchanged a (in_femtodegrees millionths rest) (10 ^ 9)
    ∙ ap (λ (z : ℤ). z *ℤ pos (10 ^ 9)) (mul-add a (millionths *ℤ pos (10 ^ 9)) (pos rest)
    ∙ ap (λ (z : ℤ). z +ℤ a *ℤ pos rest) (*ℤ_comm a (millionths *ℤ pos (10 ^ 9)) ∙ factors_exchanged millionths a (10 ^ 9)
    ∙ ap (λ (z : ℤ). z *ℤ pos (10 ^ 9)) (*ℤ_comm millionths a)))

-- how far points lie across a line

difference_is : (a b : ℤ) → in_femtodegrees a 0 -ℤ in_femtodegrees b 0 ≡ (a -ℤ b) *ℤ pos (10 ^ 9)
difference_is a b = omega (arith, ints)

difference_of : (a b c d : ℤ) → (a *ℤ pos (10 ^ 9) +ℤ b) *ℤ pos (10 ^ 9) -ℤ (c *ℤ pos (10 ^ 9) +ℤ d) *ℤ pos (10 ^ 9)
    ≡ ((a -ℤ c) *ℤ pos (10 ^ 9) +ℤ (b -ℤ d)) *ℤ pos (10 ^ 9)
difference_of a b c d = omega (arith, ints)

-- a point by whole millionths and by rests
abbrev pub whole : Bound → Bound → Point
whole longitude latitude = record { longitude = longitude.millionths; latitude = latitude.millionths }

abbrev pub rests : Bound → Bound → Point
rests longitude latitude = record { longitude = pos longitude.rest; latitude = pos latitude.rest }

module _ (line : Edge) where
  across_finer : (longitude latitude : ℤ) (east north : ℕ)
      → across (finer_edge line) (record { longitude = in_femtodegrees longitude east; latitude = in_femtodegrees latitude north })
      ≡ (across line (record { longitude = longitude; latitude = latitude }) *ℤ pos (10 ^ 9)
      +ℤ across line (record { longitude = pos east; latitude = pos north })) *ℤ pos (10 ^ 9)
  across_finer longitude latitude east north =
      ap (λ (z : ℤ). z *ℤ in_femtodegrees latitude north -ℤ northward (finer_edge line) *ℤ in_femtodegrees longitude east)
      (difference_is line.end.longitude line.start.longitude)
      ∙ ap (λ (z : ℤ). (eastward line *ℤ pos (10 ^ 9)) *ℤ in_femtodegrees latitude north -ℤ z *ℤ in_femtodegrees longitude east)
      (difference_is line.end.latitude line.start.latitude)
      ∙ ap (λ (z : ℤ). z -ℤ (northward line *ℤ pos (10 ^ 9)) *ℤ in_femtodegrees longitude east) (product_is (eastward line) latitude north)
      ∙ ap (λ (z : ℤ). ((eastward line *ℤ latitude) *ℤ pos (10 ^ 9) +ℤ eastward line *ℤ pos north) *ℤ pos (10 ^ 9) -ℤ z)
      (product_is (northward line) longitude east)
      ∙ difference_of (eastward line *ℤ latitude) (eastward line *ℤ pos north) (northward line *ℤ longitude) (northward line *ℤ pos east)

  -- nothing lies across at no rests
  none_across : across line (record { longitude = pos 0; latitude = pos 0 }) ≡ pos 0
  none_across =
      ap (λ (z : ℤ). z -ℤ northward line *ℤ pos 0) (*ℤ-zero (eastward line)) ∙ ap (λ (z : ℤ). pos 0 -ℤ z) (*ℤ-zero (northward line))

  start_finer : across (finer_edge line) (finer_edge line).start ≡ (across line line.start *ℤ pos (10 ^ 9) +ℤ pos 0) *ℤ pos (10 ^ 9)
  start_finer =
      across_finer line.start.longitude line.start.latitude 0 0
      ∙ ap (λ (z : ℤ). (across line line.start *ℤ pos (10 ^ 9) +ℤ z) *ℤ pos (10 ^ 9)) none_across

-- Whole numbers of millionths of a degree, from femtodegrees

-- the least one that is no less
pub record IsUp (femtodegrees millionths : ℤ) : Type 0 where
  pub least : (millionths *ℤ pos (10 ^ 9)) <ℤ (femtodegrees +ℤ pos (10 ^ 9))
  pub no_less : femtodegrees ≤ℤ (millionths *ℤ pos (10 ^ 9))

-- the greatest one that is no greater
pub record IsDown (femtodegrees millionths : ℤ) : Type 0 where
  pub greatest : femtodegrees <ℤ (millionths *ℤ pos (10 ^ 9) +ℤ pos (10 ^ 9))
  pub no_greater : (millionths *ℤ pos (10 ^ 9)) ≤ℤ femtodegrees

-- a number of millionths and a rest, in billionths of femtodegrees
abbrev billionths : ℤ → ℤ → ℤ
billionths millionths rest = (millionths *ℤ pos (10 ^ 9) +ℤ rest) *ℤ pos (10 ^ 9)

above_is : (lead point rest up : ℤ) → IsUp rest up → int_lt (billionths lead (pos 0)) (billionths point rest) ≡ int_lt lead (point +ℤ up)
above_is lead point rest up is = by_answer (int_lt lead (point +ℤ up)) refl
  where
    least : (up *ℤ pos (10 ^ 9)) <ℤ (rest +ℤ pos (10 ^ 9))
    least = is.least

    no_less : rest ≤ℤ (up *ℤ pos (10 ^ 9))
    no_less = is.no_less

    by_answer : (less : Bool) → int_lt lead (point +ℤ up) ≡ less → int_lt (billionths lead (pos 0)) (billionths point rest) ≡ less
    by_answer true e = sym (true_is_lt (billionths lead (pos 0)) (billionths point rest) (omega (arith, ints, least, no_less, e)))
    by_answer false e = sym (false_is_lt (billionths lead (pos 0)) (billionths point rest) (omega (arith, ints, least, no_less, e)))

below_is : (lead point rest down : ℤ) → IsDown rest down → int_lt (billionths point rest) (billionths lead (pos 0)) ≡ int_lt (point +ℤ down) lead
below_is lead point rest down is = by_answer (int_lt (point +ℤ down) lead) refl
  where
    greatest : rest <ℤ (down *ℤ pos (10 ^ 9) +ℤ pos (10 ^ 9))
    greatest = is.greatest

    no_greater : (down *ℤ pos (10 ^ 9)) ≤ℤ rest
    no_greater = is.no_greater

    by_answer : (less : Bool) → int_lt (point +ℤ down) lead ≡ less → int_lt (billionths point rest) (billionths lead (pos 0)) ≡ less
    by_answer true e = sym (true_is_lt (billionths point rest) (billionths lead (pos 0)) (omega (arith, ints, greatest, no_greater, e)))
    by_answer false e = sym (false_is_lt (billionths point rest) (billionths lead (pos 0)) (omega (arith, ints, greatest, no_greater, e)))

module _ (line : Edge) (longitude latitude : Bound) where
  corner_finer : across (finer_edge line) (corner longitude latitude)
      ≡ (across line (whole longitude latitude) *ℤ pos (10 ^ 9) +ℤ across line (rests longitude latitude)) *ℤ pos (10 ^ 9)
  corner_finer = across_finer line longitude.millionths latitude.millionths longitude.rest latitude.rest

  -- the corner lies to the left of the line, or to its right
  pub corner_left : (up : ℤ) → IsUp (across line (rests longitude latitude)) up
      → is_left (finer_edge line) (corner longitude latitude) ≡ int_lt (across line line.start) (across line (whole longitude latitude) +ℤ up)
  corner_left up is =
      left_is (finer_edge line) (corner longitude latitude)
      ∙ ap (λ (z : ℤ). int_lt z (across (finer_edge line) (corner longitude latitude))) (start_finer line)
      ∙ ap (λ (z : ℤ). int_lt ((across line line.start *ℤ pos (10 ^ 9) +ℤ pos 0) *ℤ pos (10 ^ 9)) z) corner_finer
      ∙ above_is (across line line.start) (across line (whole longitude latitude)) (across line (rests longitude latitude)) up is

  pub corner_right : (down : ℤ) → IsDown (across line (rests longitude latitude)) down
      → is_right (finer_edge line) (corner longitude latitude) ≡ int_lt (across line (whole longitude latitude) +ℤ down) (across line line.start)
  corner_right down is =
      right_is (finer_edge line) (corner longitude latitude)
      ∙ ap (λ (z : ℤ). int_lt (across (finer_edge line) (corner longitude latitude)) z) (start_finer line)
      ∙ ap (λ (z : ℤ). int_lt z ((across line line.start *ℤ pos (10 ^ 9) +ℤ pos 0) *ℤ pos (10 ^ 9))) corner_finer
      ∙ below_is (across line line.start) (across line (whole longitude latitude)) (across line (rests longitude latitude)) down is

  -- if there are none
  pub no_rests : longitude.rest ≡ 0 → latitude.rest ≡ 0 → across line (rests longitude latitude) ≡ pos 0
  no_rests east north =
      ap (λ (n : ℕ). across line (record { longitude = pos n; latitude = pos latitude.rest })) east
      ∙ ap (λ (n : ℕ). across line (record { longitude = pos 0; latitude = pos n })) north ∙ none_across line
