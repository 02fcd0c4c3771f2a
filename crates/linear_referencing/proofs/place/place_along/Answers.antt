use Rattle.std.proofs.Common.{arith}
use Rattle.linear_referencing.proofs.LengthLemmas.{one_length_lem}
use Rattle.linear_referencing.proofs.place.place_along.Goals as goal

pub place_at-requires-clause-within : goal.place_at-requires-clause-within
place_at-requires-clause-within c = λ total is_total.
    omega (arith, c.part_of-distance.ensures.within, one_length_lem c.args.points.now _ total c.line_length-total.ensures.value is_total)
