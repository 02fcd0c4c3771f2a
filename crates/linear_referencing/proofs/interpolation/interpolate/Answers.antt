use Rattle.std.proofs.Common.{w64, ◌*ℤ◌, int_div, FitsSigned, arith}
use Rattle.std.specs.Int.{w128}
use Rattle.std.proofs.lemmas.Int.{fits_signed_from_abs, ints, to_z-of_z}
use Rattle.linear_referencing.proofs.ShareLemmas.{abs-share, product-fits, share-fits, share_is}
use Rattle.linear_referencing.proofs.interpolation.interpolate.Goals as goal

pub overflow_mul-result : goal.overflow_mul-result
overflow_mul-result c =
    rw (to_z-of_z w128 c.args.length c.ranges.length, to_z-of_z w128 c.args.offset c.ranges.offset)
    (product-fits c.args.length c.args.offset c.args.total c.requires.length c.requires.offset c.requires.total)

pub nonzero_div-result : goal.nonzero_div-result
nonzero_div-result c =
    let product : FitsSigned w128 (c.args.length *ℤ c.args.offset) = product-fits c.args.length c.args.offset c.args.total c.requires.length
    c.requires.offset c.requires.total in
    let share = share-fits c.args.length c.args.offset c.args.total c.requires.length c.requires.offset in (
      grind (arith, ints),
      rw (
        to_z-of_z w128 c.args.length c.ranges.length,
        to_z-of_z w128 c.args.offset c.ranges.offset,
        to_z-of_z w128 c.args.total c.ranges.total,
        to_z-of_z w128 (c.args.length *ℤ c.args.offset) product,
      ) share,
    )

pub overflow_cast-result : goal.overflow_cast-result
overflow_cast-result c =
    let share = int_div (c.args.length *ℤ c.args.offset) c.args.total in
    let fits : FitsSigned w64 share = fits_signed_from_abs w64 share
    (omega (arith, abs-share c.args.length c.args.offset c.args.total c.requires.offset, c.requires.length)) in
    rw (share_is c.args.length c.args.offset c.args.total c.requires.length c.requires.offset c.requires.total) fits

pub returns-clause-value : goal.returns-clause-value
returns-clause-value c =
    let share = int_div (c.args.length *ℤ c.args.offset) c.args.total in
    let fits : FitsSigned w64 share = fits_signed_from_abs w64 share
    (omega (arith, abs-share c.args.length c.args.offset c.args.total c.requires.offset, c.requires.length)) in
    rw (share_is c.args.length c.args.offset c.args.total c.requires.length c.requires.offset c.requires.total) (to_z-of_z w64 share fits)

pub returns-clause-within : goal.returns-clause-within
returns-clause-within c = rw (returns-clause-value c)
    (abs-share c.args.length c.args.offset c.args.total c.requires.offset)

pub returns-clause-small : goal.returns-clause-small
returns-clause-small c = omega (arith, returns-clause-within c, c.requires.length)
