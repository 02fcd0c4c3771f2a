-- The size of a share of a distance.
use Rattle.std.proofs.Common.{◌≡◌, ◌≢◌, ℕ, ◌*◌, ◌/◌, ◌^◌, ◌<◌, ◌≤◌, zero, suc, ℤ, pos, negsuc, neg_ℤ, ◌+ℤ◌, ◌-ℤ◌, ◌*ℤ◌, nat_abs, int_div}
use Rattle.std.proofs.Common.{w64, to_z, of_z, FitsSigned, refl, subst, inl, inr, arith}
use Rattle.std.specs.Int.{w128}
use Rattle.std.proofs.Math.Nat.{div-le_of_le-mul, mul-le-mul_right, mul_comm, zero-div, div-zero}
use Rattle.std.proofs.lemmas.Bool.Decides.{nat_tests}
use Rattle.linear_referencing.specs.Place.{IsBetween, coordinate_between}
use Rattle.std.proofs.lemmas.Int.{ints, fits_signed_from_abs, fits_signed_mul, to_z-of_z, unsigned_abs-mul}

abs-neg : (n : ℕ) → nat_abs (neg_ℤ (pos n)) ≡ n
abs-neg zero = refl
abs-neg (suc n) = refl

abs-div : (a d : ℤ) → nat_abs (int_div a d) ≡ nat_abs a / nat_abs d
abs-div (pos a) (pos d) = refl
abs-div (pos a) (negsuc d) = abs-neg (a / suc d)
abs-div (negsuc a) (pos d) = abs-neg (suc a / d)
abs-div (negsuc a) (negsuc d) = refl

product-le : (m k n : ℕ) → k ≤ n → m * k ≤ n * m
product-le m k n le = rw (mul_comm m k) (mul-le-mul_right m le)

-- a share of a distance is no longer than the distance
pub abs-share : (length offset total : ℤ) → nat_abs offset ≤ nat_abs total → nat_abs (int_div (length *ℤ offset) total) ≤ nat_abs length
abs-share length offset total part =
    rw (abs-div (length *ℤ offset) total, unsigned_abs-mul length offset)
    (div-le_of_le-mul (nat_abs total) (product-le (nat_abs length) (nat_abs offset) (nat_abs total) part))

-- the product fits in 128 bits
pub product-fits : (length offset total : ℤ) → nat_abs length < 2 ^ 33 → nat_abs offset ≤ nat_abs total → nat_abs total < 2 ^ 64
    → FitsSigned w128 (length *ℤ offset)
product-fits length offset total short part small = fits_signed_mul w128 length offset (2 ^ 33) (2 ^ 64) (omega arith) (omega arith)
    (omega arith)

-- so does the quotient
pub share-fits : (length offset total : ℤ) → nat_abs length < 2 ^ 33 → nat_abs offset ≤ nat_abs total
    → FitsSigned w128 (int_div (length *ℤ offset) total)
share-fits length offset total short part = fits_signed_from_abs w128 (int_div (length *ℤ offset) total)
    (omega (arith, abs-share length offset total part))

-- the quotient as the code computes it
pub share_is : (length offset total : ℤ) → nat_abs length < 2 ^ 33 → nat_abs offset ≤ nat_abs total → nat_abs total < 2 ^ 64
    → to_z w128 (of_z w128
    (int_div (to_z w128 (of_z w128 (to_z w128 (of_z w128 length) *ℤ to_z w128 (of_z w128 offset)))) (to_z w128 (of_z w128 total))))
    ≡ int_div (length *ℤ offset) total
share_is length offset total short part small =
    let fits : FitsSigned w128 length = fits_signed_from_abs w128 length (omega arith) in
    let fits' : FitsSigned w128 offset = fits_signed_from_abs w128 offset (omega arith) in
    let fits'' : FitsSigned w128 total = fits_signed_from_abs w128 total (omega arith) in
    let product = to_z-of_z w128 (length *ℤ offset) (product-fits length offset total short part small) in
    let share = to_z-of_z w128 (int_div (length *ℤ offset) total) (share-fits length offset total short part) in
    rw (to_z-of_z w128 length fits, to_z-of_z w128 offset fits', to_z-of_z w128 total fits'', product, share) refl

-- the difference as the code computes it
pub difference_is : (a b x y : ℤ) → x ≡ a → y ≡ b → nat_abs a < 10 ^ 11 → nat_abs b < 10 ^ 11
    → to_z w128 (of_z w128 (to_z w128 (of_z w128 x) -ℤ to_z w128 (of_z w128 y))) ≡ a -ℤ b
difference_is a b x y is is' small small' =
    let fits : FitsSigned w128 a = fits_signed_from_abs w128 a (omega arith) in
    let fits' : FitsSigned w128 b = fits_signed_from_abs w128 b (omega arith) in
    let difference : FitsSigned w128 (a -ℤ b) = grind (arith, ints) in
    rw (is, is', to_z-of_z w128 a fits, to_z-of_z w128 b fits', to_z-of_z w128 (a -ℤ b) difference) refl

-- a coordinate between two others that are apart
pub between-apart : (from to : ℤ) (part whole : ℕ) → whole ≢ 0
    → coordinate_between from to part whole ≡ from +ℤ int_div ((to -ℤ from) *ℤ pos part) (pos whole)
between-apart from to part whole apart = grind (arith, nat_tests)

-- a share of a distance is no longer than the distance, also with a minus sign
share-le : (length part whole : ℕ) → part ≤ whole → length * part / whole ≤ length
share-le length part whole within = div-le_of_le-mul whole (product-le length part whole within)

neg-div : (m d : ℕ) → int_div (neg_ℤ (pos m)) (pos d) ≡ neg_ℤ (pos (m / d))
neg-div zero d = rw (zero-div d) refl
neg-div (suc m) d = refl

-- a part of the way from a coordinate on is between it and the end of the way
part-between : (from way : ℤ) (part whole : ℕ) → part ≤ whole
    → IsBetween from (from +ℤ way) (from +ℤ int_div (way *ℤ pos part) (pos whole))
part-between from (pos n) part whole within = inl (grind (arith, ints, share-le n part whole within))
part-between from (negsuc n) part whole within = rw (neg-div (suc n * part) whole) (inr (grind (arith, ints, share-le (suc n) part whole within)))

div-none : (n : ℤ) → int_div n (pos 0) ≡ pos 0
div-none (pos n) = rw (div-zero n) refl
div-none (negsuc n) = rw (div-zero (suc n)) refl

-- a part of the way between two coordinates
part-of-way : (from to : ℤ) (part whole : ℕ) → part ≤ whole → IsBetween from to (from +ℤ int_div ((to -ℤ from) *ℤ pos part) (pos whole))
part-of-way from to part whole within =
    let P : ℤ → Type 0 = λ end. IsBetween from end (from +ℤ int_div ((to -ℤ from) *ℤ pos part) (pos whole)) in
    let whole_way : from +ℤ (to -ℤ from) ≡ to = grind (arith, ints) in
    subst P whole_way (part-between from (to -ℤ from) part whole within)

pub lies_between_lem : (from to : ℤ) (part whole : ℕ) → part ≤ whole → IsBetween from to (coordinate_between from to part whole)
lies_between_lem from to part zero within =
    let P : ℤ → Type 0 = λ coordinate. IsBetween from to coordinate in
    let start : from +ℤ int_div ((to -ℤ from) *ℤ pos part) (pos 0) ≡ from = rw (div-none ((to -ℤ from) *ℤ pos part)) (grind (arith, ints)) in
    subst P start (part-of-way from to part 0 within)
lies_between_lem from to part (suc whole) within =
    rw (between-apart from to part (suc whole) (λ none. omega (arith, none))) (part-of-way from to part (suc whole) within)

-- the sum of a coordinate and a share fits in 64 bits
pub sum-fits : (a b : ℤ) → nat_abs a < 2 ^ 33 → nat_abs b < 2 ^ 33 → FitsSigned w64 (a +ℤ b)
sum-fits a b small small' = grind (arith, ints)
