-- A box that is turned around.
use Rattle.std.proofs.Common.{◌≡◌, ◌≤ℤ◌, int_lt, true, w64, to_z, of_z, arith}
use Rattle.std.proofs.lemmas.Int.{ints, to_z-of_z}
use Rattle.cql2.specs.declared.number.Literal.{Literal}

pub turned : (high low : Literal) → int_lt (to_z w64 (of_z w64 high.number)) (to_z w64 (of_z w64 low.number)) ≡ true
    → low.number ≤ℤ high.number → ⊥
turned high low is ordered =
    let less : int_lt high.number low.number ≡ true = rw (to_z-of_z w64 high.number high.fits, to_z-of_z w64 low.number low.fits) at is in
    omega (arith, ints)
