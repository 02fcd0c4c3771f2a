use Rattle.jobs.proofs.SegmentLemmas.{IsLeftAfter}
use Rattle.jobs.proofs.cursor.Cursor.after.Given as goal

abbrev pub invariant-loop-number : goal.invariant-loop-number
invariant-loop-number g l = IsLeftAfter l.counties l.done l.number l.left
