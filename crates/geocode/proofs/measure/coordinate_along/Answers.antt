use Rattle.std.proofs.Common.{◌≡◌, ◌≢◌, ◌<◌, ◌^◌, w64, pos, ◌+ℤ◌, ◌-ℤ◌, ◌*ℤ◌, int_div, FitsSigned, refl, ap, sym, ◌∙◌, arith}
use Rattle.std.proofs.lemmas.Bool.Decides.{nat_tests}
use Rattle.std.proofs.lemmas.Int.{fits_signed_from_abs, to_z-of_z}
use Rattle.linear_referencing.proofs.ShareLemmas.{difference_is, sum-fits}
use Rattle.geocode.proofs.MeasureLemmas.{coordinate_along-apart}
use Rattle.geocode.proofs.measure.coordinate_along.Goals as goal

pub overflow_add-result : goal.overflow_add-result
overflow_add-result c =
    let share : FitsSigned w64 c.interpolate.result = fits_signed_from_abs w64 c.interpolate.result (omega (arith, c.interpolate.ensures.small)) in
    rw (to_z-of_z w64 c.args.from c.ranges.from, to_z-of_z w64 c.interpolate.result share)
    (sum-fits c.args.from c.interpolate.result (omega (arith, c.requires.from)) c.interpolate.ensures.small)

pub returns : goal.returns
returns c =
    let from = c.args.from in
    let to = c.args.to in
    let measure = c.args.measure in
    let apart : measure.from ≢ measure.to = grind (arith, nat_tests, c.if-measure.false) in
    let number : measure.number < 10 ^ 11 = grind (
      arith,
      nat_tests,
      c.requires.measure.between,
      c.requires.measure.from,
      c.requires.measure.to,
    ) in
    let length = difference_is to from c.from.result c.from-2.result (c.from.ensures ∙ to_z-of_z w64 to c.ranges.to)
    (c.from-2.ensures ∙ to_z-of_z w64 from c.ranges.from) (omega (arith, c.requires.to)) (omega (arith, c.requires.from)) in
    let offset = difference_is (pos measure.number) (pos measure.from) c.from-3.result c.from-4.result c.from-3.ensures c.from-4.ensures
    number c.requires.measure.from in
    let total = difference_is (pos measure.to) (pos measure.from) c.from-5.result c.from-6.result c.from-5.ensures c.from-6.ensures
    c.requires.measure.to c.requires.measure.from in
    let share : c.interpolate.result ≡ int_div ((to -ℤ from) *ℤ (pos measure.number -ℤ pos measure.from))
    (pos measure.to -ℤ pos measure.from) = c.interpolate.ensures.value ∙ rw (length, offset, total) refl in
    let fits : FitsSigned w64 c.interpolate.result = fits_signed_from_abs w64 c.interpolate.result (omega (arith, c.interpolate.ensures.small)) in
    let sum : FitsSigned w64 (from +ℤ c.interpolate.result) = sum-fits from c.interpolate.result
    (omega (arith, c.requires.from)) c.interpolate.ensures.small in
    rw (to_z-of_z w64 from c.ranges.from, to_z-of_z w64 c.interpolate.result fits, to_z-of_z w64 (from +ℤ c.interpolate.result) sum)
    (ap (λ share. from +ℤ share) share ∙ sym (coordinate_along-apart from to measure apart))
