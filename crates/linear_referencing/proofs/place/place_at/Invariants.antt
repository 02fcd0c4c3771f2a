use Rattle.std.proofs.Common.{◌≡◌, ◌<◌, ◌+◌, ℕ}
use Rattle.linear_referencing.proofs.LengthLemmas.{IsReached}
use Rattle.linear_referencing.proofs.place.place_at.Given as goal

abbrev pub invariant-loop-to : goal.invariant-loop-to
invariant-loop-to l =
    ((start : ℕ) × IsReached l.initial.from l.rest l.to-index l.from start × (l.fn.distance ≡ start + l.left)) × (0 < l.to-index → 0 < l.left)
