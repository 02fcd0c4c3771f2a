use Rattle.std.proofs.Common.{◌≡◌, ◌≢◌, ◌≤◌, nat_abs, w32, w64, pos, ◌+ℤ◌, ◌-ℤ◌, ◌*ℤ◌, int_div, FitsSigned, refl, ap, sym, ◌∙◌, arith}
use Rattle.std.specs.Int.{w128}
use Rattle.std.proofs.lemmas.Bool.Decides.{nat_tests}
use Rattle.std.proofs.lemmas.Int.{fits_signed_from_abs, ints, to_z-of_z}
use Rattle.linear_referencing.proofs.ShareLemmas.{between-apart, difference_is}
use Rattle.linear_referencing.proofs.place.coordinate_between.Goals as goal

pub returns : goal.returns
returns c =
    let from = c.args.from in
    let to = c.args.to in
    let apart : c.args.whole ≢ 0 = grind (arith, nat_tests, c.if-whole-eq0.false) in
    let distance = difference_is to from c.from-2.result c.from-3.result (c.from-2.ensures ∙ to_z-of_z w32 to c.ranges.to)
    (c.from-3.ensures ∙ to_z-of_z w32 from c.ranges.from) (grind (arith, ints, c.ranges.to)) (grind (arith, ints, c.ranges.from)) in
    let part : FitsSigned w128 (pos c.args.part) = fits_signed_from_abs w128 (pos c.args.part) (omega (arith, c.requires.within, c.requires.whole)) in
    let whole : FitsSigned w128 (pos c.args.whole) = fits_signed_from_abs w128 (pos c.args.whole) (omega (arith, c.requires.whole)) in
    let share : c.interpolate-share.result ≡ int_div ((to -ℤ from) *ℤ pos c.args.part) (pos c.args.whole) =
    c.interpolate-share.ensures.value
    ∙ rw (distance, c.from-4.ensures, c.from-5.ensures, to_z-of_z w128 (pos c.args.part) part, to_z-of_z w128 (pos c.args.whole) whole) refl in
    let start : c.from-6.result ≡ from = c.from-6.ensures ∙ to_z-of_z w32 from c.ranges.from in
    let short : nat_abs c.interpolate-share.result ≤ nat_abs (to -ℤ from) = rw (sym distance) c.interpolate-share.ensures.within in
    let fits : FitsSigned w64 c.interpolate-share.result = grind (arith, ints, short, c.ranges.from, c.ranges.to) in
    let sum : FitsSigned w64 (from +ℤ c.interpolate-share.result) = grind (arith, ints, short, c.ranges.from, c.ranges.to) in
    let wide : FitsSigned w64 from = grind (arith, ints, c.ranges.from) in
    rw (start, to_z-of_z w64 from wide, to_z-of_z w64 c.interpolate-share.result fits, to_z-of_z w64 (from +ℤ c.interpolate-share.result) sum)
    (ap (λ share. from +ℤ share) share ∙ sym (between-apart from to c.args.part c.args.whole apart))
