use Rattle.std.proofs.Common.{◌≡◌, ◌-◌, length}
use Rattle.jobs.specs.Inside.{left_at}
use Rattle.jobs.proofs.cursor.Cursor.next.Given as goal

abbrev pub invariant-loop-county : goal.invariant-loop-county
invariant-loop-county g l = (left_at l.counties l.self ≡ left_at l.counties l.initial.self) × (l.self.done ≡ l.initial.self.done)

abbrev pub decreases-loop-county : goal.decreases-loop-county
decreases-loop-county g l = length l.counties - l.self.county
