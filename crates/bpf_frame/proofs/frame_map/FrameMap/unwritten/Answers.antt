use Rattle.std.proofs.Common.{refl}
use Rattle.bpf_frame.specs.Lanes.{marks_of}
use Rattle.bpf_frame.proofs.ProperLemmas.{unwritten_is_proper}
use Rattle.bpf_frame.proofs.frame_map.FrameMap.unwritten.Goals as goal

pub returns-clause-value : goal.returns-clause-value
unfolding marks_of
returns-clause-value c = refl

pub returns-clause-proper : goal.returns-clause-proper
unfolding marks_of
returns-clause-proper c = unwritten_is_proper
