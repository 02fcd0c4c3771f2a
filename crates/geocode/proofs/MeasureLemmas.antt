-- A coordinate along a side.
use Rattle.std.proofs.Common.{◌≡◌, ◌≢◌, ℤ, pos, ◌+ℤ◌, ◌-ℤ◌, ◌*ℤ◌, int_div, arith}
use Rattle.std.proofs.lemmas.Bool.Decides.{nat_tests}
use Rattle.geocode.specs.Measure.{coordinate_along}
use Rattle.geocode.specs.declared.measure.Measure.{Measure}

-- a coordinate between two others if the addresses differ
pub coordinate_along-apart : (from to : ℤ) (measure : Measure) → measure.from ≢ measure.to
    → coordinate_along from to measure ≡ from +ℤ int_div ((to -ℤ from) *ℤ (pos measure.number -ℤ pos measure.from))
    (pos measure.to -ℤ pos measure.from)
coordinate_along-apart from to measure apart = grind (arith, nat_tests)
