use Rattle.bpf_frame.specs.FrameMap.{IsProper}
use Rattle.bpf_tests.proofs.frame.marked.Given as goal

-- the map is proper
abbrev pub invariant-loop-run : goal.invariant-loop-run
invariant-loop-run l = IsProper l.map
