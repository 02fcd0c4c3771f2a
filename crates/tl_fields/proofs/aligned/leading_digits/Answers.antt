use Rattle.std.proofs.Common.{ℕ, ltb, cond, refl, arith}
use Rattle.std.proofs.lemmas.Simd.{zip2_splat, zip2_splat_left}
use Rattle.std.specs.Char.{is_ascii_digit}
use Rattle.tl_fields.proofs.LaneLemmas.{joined, passes, within}
use Rattle.tl_fields.proofs.aligned.leading_digits.Goals as goal

pub returns-clause-digits : goal.returns-clause-digits
returns-clause-digits c =
    let v = c.args.lanes in
    let long = c.fits-lanes.0 in
    passes is_ascii_digit v _ 16 _ long (omega arith) c.fits-lanes.1 _
    (joined _ _ _ v (zip2_splat _ v 16 48 long) (zip2_splat_left {X = ℕ} (λ a b. cond (ltb a b) 255 0) 57 16 v long)) c.lowest_set_bit.ensures refl

pub returns-clause-within : goal.returns-clause-within
returns-clause-within c =
    let v = c.args.lanes in
    let long = c.fits-lanes.0 in
    within is_ascii_digit v _ 16 _ long (omega arith) c.fits-lanes.1 _
    (joined _ _ _ v (zip2_splat _ v 16 48 long) (zip2_splat_left {X = ℕ} (λ a b. cond (ltb a b) 255 0) 57 16 v long)) c.lowest_set_bit.ensures
