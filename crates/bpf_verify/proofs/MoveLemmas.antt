-- Offsets stay proper when pointers are moved.
use Rattle.std.proofs.Common.{◌≡◌, Option, Some, None, Result, Ok, IfOk, sym, ◌∙◌, subst}
use Rattle.std.specs.Option.{ok_or}
use Rattle.bpf_kinds.specs.Interval as interval
use Rattle.bpf_kinds.specs.Moving.{near_distances, move_by, move_back_by}
use Rattle.bpf_kinds.specs.Offsets.{IsProper}
use Rattle.bpf_kinds.specs.declared.interval.Interval.{Interval}
use Rattle.bpf_kinds.specs.declared.offsets.Offsets.{Offsets}
use Rattle.bpf_kinds.proofs.MovingLaws.{near-proper, move_by-proper, move_back_by-proper}
use Rattle.bpf_meaning.specs.declared.cause.Cause.{Cause}

is_found : (found : Option Offsets) (cause : Cause) (offsets : Offsets) → ok_or found cause ≡ Ok offsets → found ≡ Some offsets
is_found None cause offsets is = cc
is_found (Some other) cause offsets is = cc

all_proper : (found : Option Offsets) (cause : Cause) → ((offsets : Offsets) → found ≡ Some offsets → IsProper offsets)
    → IfOk (ok_or found cause) IsProper
all_proper None cause proper = tt
all_proper (Some offsets) cause proper = proper offsets (λ i. Some offsets)

-- the distances
pub distances_are_proper : {x : Interval} {found : Option Offsets} (cause : Cause) {result : Result Offsets Cause} {distances : Offsets}
    → interval.IsProper x → found ≡ near_distances x → result ≡ ok_or found cause → result ≡ Ok distances → IsProper distances
distances_are_proper {x} {found} cause {distances} proper near is ok =
    near-proper x distances proper (sym near ∙ is_found found cause distances (sym is ∙ ok))

-- the offsets after a move
pub moved_are_proper : {offsets distances : Offsets} {moved : Option Offsets} (cause : Cause) {result : Result Offsets Cause}
    → IsProper offsets → IsProper distances → moved ≡ move_by offsets distances → result ≡ ok_or moved cause → IfOk result IsProper
moved_are_proper {offsets} {distances} {moved} cause proper near move is =
    subst (λ (r : Result Offsets Cause). IfOk r IsProper) (sym is)
    (all_proper moved cause (λ to found. move_by-proper offsets distances to proper near (sym move ∙ found)))

pub moved_back_are_proper : {offsets distances : Offsets} {moved : Option Offsets} (cause : Cause) {result : Result Offsets Cause}
    → IsProper offsets → IsProper distances → moved ≡ move_back_by offsets distances → result ≡ ok_or moved cause → IfOk result IsProper
moved_back_are_proper {offsets} {distances} {moved} cause proper near move is =
    subst (λ (r : Result Offsets Cause). IfOk r IsProper) (sym is)
    (all_proper moved cause (λ to found. move_back_by-proper offsets distances to proper near (sym move ∙ found)))
