-- Sums and differences of signed 16-bit numbers, computed on signed 32-bit ones.
use Rattle.std.proofs.Common.{◌≡◌, arith, ◌∙◌}
use Rattle.std.specs.Prelude.{ℤ, ◌+ℤ◌, ◌-ℤ◌, FitsSigned}
use Rattle.std.specs.Int.{w16, w32, cast_signed, cast_unsigned}
use Rattle.std.proofs.lemmas.Int.{ints, to_z-of_z}

-- a signed 16-bit number that is passed as a 32-bit one
passed : (a x : ℤ) → FitsSigned w16 x → a ≡ cast_signed w16 (cast_unsigned w16 x) → cast_signed w32 (cast_unsigned w32 a) ≡ x
passed a x fits is =
    let same : a ≡ x = is ∙ to_z-of_z w16 x fits in
    rw same (to_z-of_z w32 x (record { sfits = omega arith }))

pub sum_end : (a b x y : ℤ) → FitsSigned w16 x → FitsSigned w16 y → a ≡ cast_signed w16 (cast_unsigned w16 x)
    → b ≡ cast_signed w16 (cast_unsigned w16 y) → cast_signed w32
    (cast_unsigned w32 (cast_signed w32 (cast_unsigned w32 a) +ℤ cast_signed w32 (cast_unsigned w32 b))) ≡ x +ℤ y
sum_end a b x y fits-x fits-y is-a is-b = rw (passed a x fits-x is-a, passed b y fits-y is-b)
    (to_z-of_z w32 (x +ℤ y) (omega (arith, ints)))

pub difference_end : (a b x y : ℤ) → FitsSigned w16 x → FitsSigned w16 y → a ≡ cast_signed w16 (cast_unsigned w16 x)
    → b ≡ cast_signed w16 (cast_unsigned w16 y) → cast_signed w32
    (cast_unsigned w32 (cast_signed w32 (cast_unsigned w32 a) -ℤ cast_signed w32 (cast_unsigned w32 b))) ≡ x -ℤ y
difference_end a b x y fits-x fits-y is-a is-b = rw (passed a x fits-x is-a, passed b y fits-y is-b)
    (to_z-of_z w32 (x -ℤ y) (omega (arith, ints)))
