use Rattle.std.proofs.Common.{◌*◌, ◌^◌, ◌<◌, sym, arith}
use Rattle.cql2_text.proofs.CoordinateLemmas.{parts_small, power_small, power_some}
use Rattle.cql2_text.proofs.literal.parts_of.Goals as goal

pub returns-then-is_empty-clause-small : goal.returns-then-is_empty-clause-small
returns-then-is_empty-clause-small c = power_some c.args.most

pub overflow_mul-result : goal.overflow_mul-result
overflow_mul-result c =
    let small = parts_small c.args.most c.args.decimals.now c.in_ok-parts.parts (sym c.in_ok-parts.ensures.value) in
    let product : c.in_ok-parts.parts * c.unit.result < 10 ^ c.args.most = rw c.unit.ensures.value small in
    omega (arith, product, power_small c.args.most c.requires.few)

pub returns-clause-small : goal.returns-clause-small
returns-clause-small c =
    let small = parts_small c.args.most c.args.decimals.now c.in_ok-parts.parts (sym c.in_ok-parts.ensures.value) in
    rw c.unit.ensures.value small
