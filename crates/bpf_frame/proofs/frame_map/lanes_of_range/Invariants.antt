use Rattle.bpf_frame.proofs.RangeLemmas.{IsRange}
use Rattle.bpf_frame.proofs.frame_map.lanes_of_range.Given as goal

abbrev pub invariant-loop-lane : goal.invariant-loop-lane
invariant-loop-lane l = IsRange l.lanes l.from l.end l.lane
