use Rattle.std.proofs.Common.{◌*◌, arith}
use Rattle.linear_referencing.proofs.LengthLemmas.{piece-small, product-small}
use Rattle.linear_referencing.proofs.length.piece_length.Goals as goal

pub returns-clause-small : goal.returns-clause-small
returns-clause-small c = piece-small c.isqrt.result (c.from.result * c.cosine.result) (c.from-north.result * 32768)
    (product-small c.from.result c.cosine.result (omega (arith, c.from.ensures, c.abs_diff.type_inv)) c.cosine.ensures.small)
    (omega (arith, c.from-north.ensures, c.abs_diff-2.type_inv)) (omega (arith, c.isqrt.ensures.square_le, c.squared_length.ensures))
