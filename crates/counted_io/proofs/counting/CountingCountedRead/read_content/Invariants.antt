use Rattle.std.proofs.Common.{◌≡◌, ◌-◌, length}
use Rattle.counted_io.proofs.ContentLemmas.{IsSoFar}
use Rattle.counted_io.proofs.counting.CountingCountedRead.read_content.Given as goal

abbrev pub invariant-loop-byte : goal.invariant-loop-byte
invariant-loop-byte g l =
    IsSoFar l.content.items
    (record { left = g.T.Read.remaining l.initial.self.inner; failed = l.initial.self.failed_reads })
    (record { left = g.T.Read.remaining l.self.inner; failed = l.self.failed_reads })
    × (l.self.counts ≡ l.initial.self.counts)

abbrev pub decreases-loop-byte : goal.decreases-loop-byte
decreases-loop-byte g l = 230 - length l.content.items
