use Rattle.std.proofs.Common.{◌≤◌, length}
use Rattle.jobs.specs.Segments.{segments_of}
use Rattle.extract_tests.proofs.advances.refusals.Given as goal

-- the number of segments done is at most their total
abbrev pub invariant-loop-attempt : goal.invariant-loop-attempt
invariant-loop-attempt l = l.done ≤ length (segments_of l.fn.counties)
