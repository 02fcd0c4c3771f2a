use Rattle.std.proofs.Common.{◌+◌}
use Rattle.bpf_frame.proofs.RangeLemmas.{HasMarks}
use Rattle.bpf_frame.proofs.frame_map.FrameMap.all_written.Given as goal

abbrev pub invariant-loop-lane : goal.invariant-loop-lane
invariant-loop-lane l = HasMarks l.self-inside.lanes l.from (l.to + 1) l.lane
