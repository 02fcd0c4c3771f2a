use Rattle.std.proofs.Common.{◌≡◌, ◌+◌, ◌<◌, ◌^◌, refl, arith}
use Rattle.cql2.specs.Expression.{bound, combined_bound}
use Rattle.cql2_text.specs.Expression.{operators}
use Rattle.cql2_text.proofs.subexpression.combination.Goals as goal

pub returns : goal.returns
returns g c =
    let first = c.in-Ok.first in
    let second = c.in-Ok-new.second in
    let one : first.value ≡ c.args.first.expression = c.in-Ok.ensures.ok in
    let two : second.value ≡ c.args.second.expression = c.in-Ok-new.ensures.ok in
    let few : operators c.args.first.expression + operators c.args.second.expression < 64 =
    omega (arith, c.if-operators-gt-MAX_OPERATORS.false, c.args.first.operators_are, c.args.second.operators_are) in
    let same : combined_bound c.args.operator c.args.first.bound c.args.second.bound ≡
    combined_bound c.args.operator (bound c.args.first.expression) (bound c.args.second.expression) =
    rw (c.args.first.bound_is, c.args.second.bound_is) refl in
    let small : combined_bound c.args.operator (bound c.args.first.expression) (bound c.args.second.expression) < 2 ^ 62 =
    omega (arith, c.in-Some.ensures.0, c.in-Some.ensures.1, same) in (
      record { few = few; small = small },
      (
        record { ptr = first.ptr; alloc = first.alloc; value = tt },
        (record { ptr = second.ptr; alloc = second.alloc; value = tt }, rw (one, two) refl),
      ),
    )
