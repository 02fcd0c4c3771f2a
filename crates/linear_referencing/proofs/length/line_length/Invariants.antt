use Rattle.std.proofs.Common.{◌*◌, ◌^◌, ◌≤◌}
use Rattle.linear_referencing.proofs.LengthLemmas.{IsReached}
use Rattle.linear_referencing.proofs.length.line_length.Given as goal

abbrev pub invariant-loop-to : goal.invariant-loop-to
invariant-loop-to l = IsReached l.initial.from l.rest l.to-index l.from l.total × (l.total ≤ l.to-index * 2 ^ 49)
