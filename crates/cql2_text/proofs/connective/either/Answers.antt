use Rattle.std.proofs.Common.{◌≡◌, refl}
use Rattle.cql2_text.proofs.connective.either.Goals as goal

pub returns : goal.returns
returns g c =
    let first = c.in_ok-first.first in
    let second = c.in_ok-second.second in
    let one : first.value ≡ c.args.first = c.in_ok-first.ensures in
    let two : second.value ≡ c.args.second = c.in_ok-second.ensures in (
      record { ptr = first.ptr; alloc = first.alloc; value = tt },
      (record { ptr = second.ptr; alloc = second.alloc; value = tt }, rw (one, two) refl),
    )
