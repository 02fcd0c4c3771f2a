use Rattle.std.proofs.Common.{◌≡◌, length}
use Rattle.bpf_assembler.specs.Words.{trim_start}
use Rattle.bpf_assembler.proofs.words.trim_start.Given as goal

abbrev pub invariant-loop-rest : goal.invariant-loop-rest
invariant-loop-rest l = trim_start l.rest ≡ trim_start l.fn.bytes

abbrev pub decreases-loop-rest : goal.decreases-loop-rest
decreases-loop-rest l = length l.rest
