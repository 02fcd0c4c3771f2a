use Rattle.std.proofs.Common.{◌≡◌, refl}
use Rattle.cql2_text.proofs.connective.negation.Goals as goal

pub returns : goal.returns
returns g c =
    let inner = c.in_ok-inner.inner in
    let one : inner.value ≡ c.args.inner = c.in_ok-inner.ensures in
    (record { ptr = inner.ptr; alloc = inner.alloc; value = tt }, rw one refl)
