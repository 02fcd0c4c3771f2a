-- A box's bounds, rounded inwards: a whole number of millionths of a degree lies within them exactly if it lies within the bounds.
use Rattle.std.proofs.Common.{◌≡◌, ℕ, ◌≤◌, ◌*◌, ◌^◌, ◌==◌, ℤ, pos, ◌+ℤ◌, Bool, true, false, not, if◌then◌else◌, refl, sym, ap, ◌∙◌, arith}
use Rattle.std.specs.Prelude.{FitsSigned, ◌&&◌, int_le, int_lt, unsigned_abs}
use Rattle.std.specs.Int.{w64}
use Rattle.std.proofs.lemmas.Int.{ints}
use Rattle.cql2.specs.Femtodegrees.{in_femtodegrees}
use Rattle.cql2.specs.Geometry.{Point, femtodegrees, lies_in_bounds}
use Rattle.cql2.specs.declared.geometry.Bound.{Bound}
use Rattle.cql2.specs.declared.geometry.Bounds.{Bounds}
use Rattle.cql2.proofs.Sides.{fits_64}
use Rattle.cql2_code.specs.ShapeCode.{rounded_up}
use Rattle.cql2_code.proofs.BoundsSides.{greater_rounded, less_rounded}
use Rattle.cql2_code.proofs.Operands.{int_at_most}
use Rattle.cql2_code.proofs.ShapeMarks.{both_are}

up_small : (millionths : ℤ) (rest : ℕ) → unsigned_abs millionths ≤ 10 ^ 9
    → unsigned_abs (if rest == 0 then millionths else millionths +ℤ pos 1) ≤ 8 * 10 ^ 18
up_small millionths rest small = grind (arith, ints)

pub down_fits : (bound : Bound) → FitsSigned w64 bound.millionths
down_fits bound = let small = bound.millionths_fit in fits_64 bound.millionths (omega arith)

pub up_fits : (bound : Bound) → FitsSigned w64 (rounded_up bound)
up_fits bound = fits_64 (rounded_up bound) (up_small bound.millionths bound.rest bound.millionths_fit)

at_least_is : (number : ℤ) (bound : Bound) → not (int_lt number (rounded_up bound)) ≡ int_le (femtodegrees bound) (in_femtodegrees number 0)
at_least_is number bound = ap not (less_rounded number bound) ∙ sym (int_at_most (femtodegrees bound) (in_femtodegrees number 0))

at_most_is : (number : ℤ) (bound : Bound) → not (int_lt bound.millionths number) ≡ int_le (in_femtodegrees number 0) (femtodegrees bound)
at_most_is number bound = ap not (greater_rounded number bound) ∙ sym (int_at_most (in_femtodegrees number 0) (femtodegrees bound))

grouped : (a b c d rest : Bool) → (a && (b && (c && (d && rest)))) ≡ ((((a && b) && c) && d) && rest)
grouped false b c d rest = refl
grouped true false c d rest = refl
grouped true true false d rest = refl
grouped true true true d rest = refl

-- a point lies in a box, by the four comparisons with its rounded bounds
pub inside_is : (bounds : Bounds) (point : Point) (rest : Bool)
    → (not (int_lt point.longitude (rounded_up bounds.west)) && (not (int_lt bounds.east.millionths point.longitude)
    && (not (int_lt point.latitude (rounded_up bounds.south)) && (not (int_lt bounds.north.millionths point.latitude) && rest))))
    ≡ (lies_in_bounds bounds point && rest)
inside_is bounds point rest =
    grouped (not (int_lt point.longitude (rounded_up bounds.west))) (not (int_lt bounds.east.millionths point.longitude))
    (not (int_lt point.latitude (rounded_up bounds.south))) (not (int_lt bounds.north.millionths point.latitude)) rest
    ∙ ap (λ (t : Bool). t && rest)
    (both_are
    (both_are (both_are (at_least_is point.longitude bounds.west) (at_most_is point.longitude bounds.east)) (at_least_is point.latitude bounds.south))
    (at_most_is point.latitude bounds.north))
