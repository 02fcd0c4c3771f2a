use Rattle.std.proofs.Common.{length, ◌-◌}
use Rattle.http_message.proofs.SearchLemmas.{HasReadSoFar}
use Rattle.http_message.proofs.head.find_head.Given as goal

abbrev pub invariant-loop-count : goal.invariant-loop-count
invariant-loop-count g l =
    HasReadSoFar l.bytes l.count (g.R.CountedRead.reader l.initial.input)
    (g.R.CountedRead.reader l.input)

abbrev pub decreases-loop-count : goal.decreases-loop-count
decreases-loop-count g l = length l.initial.bytes - l.count
