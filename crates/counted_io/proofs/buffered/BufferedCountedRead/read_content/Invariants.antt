use Rattle.std.proofs.Common.{◌-◌, ◌≤◌, length, take}
use Rattle.counted_io.proofs.ContentLemmas.{IsSoFar}
use Rattle.counted_io.proofs.buffered.BufferedCountedRead.read_content.Given as goal

-- the first `length_so_far` bytes are the line so far
abbrev pub invariant-loop-stop : goal.invariant-loop-stop
invariant-loop-stop g l = record {
  within : l.length_so_far ≤ length l.content.items;
  short : l.length_so_far ≤ 230;
  so_far : IsSoFar (take l.length_so_far l.content.items)
      (record { left = g.B.Read.remaining l.initial.self.reader; failed = l.initial.self.failed_reads })
      (record { left = g.B.Read.remaining l.self.reader; failed = l.self.failed_reads });
}

abbrev pub decreases-loop-stop : goal.decreases-loop-stop
decreases-loop-stop g l = 230 - l.length_so_far
