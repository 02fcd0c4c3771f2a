use Rattle.jobs.specs.Inside.{IsCursorIn}
use Rattle.jobs.proofs.SegmentLemmas.{IsTurnedSoFar}
use Rattle.jobs.proofs.turn.write_turn.Given as goal

abbrev pub invariant-loop-left : goal.invariant-loop-left
invariant-loop-left g l = record {
  cursor : IsCursorIn l.counties l.cursor;
  turned : IsTurnedSoFar l.verified.code l.counties l.fn.from l.cursor l.left l.initial.out.inner.items l.out.inner.items;
}

abbrev pub decreases-loop-left : goal.decreases-loop-left
decreases-loop-left g l = l.left
