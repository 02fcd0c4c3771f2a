use Rattle.std.proofs.Common.{◌≡◌, ◌<◌, refl, arith}
use Rattle.cql2_text.specs.Expression.{operators}
use Rattle.cql2_text.proofs.subexpression.opposite.Goals as goal

pub returns : goal.returns
returns g c =
    let inner = c.in-Ok.inner in
    let one : inner.value ≡ c.args.inner.expression = c.in-Ok.ensures.ok in
    let few : operators c.args.inner.expression < 64 = omega (arith, c.if-inner-ge-MAX_OPERATORS.false, c.args.inner.operators_are) in
    (few, (record { ptr = inner.ptr; alloc = inner.alloc; value = tt }, rw one refl))
