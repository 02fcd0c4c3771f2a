use Rattle.std.proofs.Common.{◌==◌, refl, arith}
use Rattle.std.proofs.lemmas.Bool.{eqb-true}
use Rattle.std.proofs.lemmas.Simd.{zip2_splat}
use Rattle.tl_fields.proofs.LaneLemmas.{passes, within}
use Rattle.tl_fields.proofs.aligned.leading_blanks.Goals as goal

pub returns-clause-blanks : goal.returns-clause-blanks
returns-clause-blanks c k before =
    let v = c.args.lanes in
    let long = c.fits-lanes.0 in
    eqb-true _ _ (passes (λ b. b == 32) v _ 16 _ long (omega arith) c.fits-lanes.1 _ (zip2_splat _ v 16 32 long) c.lowest_set_bit.ensures refl k before)

pub returns-clause-within : goal.returns-clause-within
returns-clause-within c =
    let v = c.args.lanes in
    let long = c.fits-lanes.0 in
    within (λ b. b == 32) v _ 16 _ long (omega arith) c.fits-lanes.1 _ (zip2_splat _ v 16 32 long) c.lowest_set_bit.ensures
