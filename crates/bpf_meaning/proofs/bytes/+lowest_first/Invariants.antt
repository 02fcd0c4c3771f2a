use Rattle.std.proofs.Common.{length}
use Rattle.bpf_meaning.proofs.bytes.+lowest_first.Given as goal

abbrev pub decreases-lowest_first : goal.decreases-lowest_first
decreases-lowest_first l = length l.bytes.now
