use Rattle.std.proofs.Common.{◌∙◌}
use Rattle.bpf_frame.proofs.LaneLemmas.{and_are_lanes, join_is, same_join}
use Rattle.bpf_frame.proofs.frame_map.FrameMapOrder.join.Goals as goal

pub invariant_of-result : goal.invariant_of-result
invariant_of-result c = and_are_lanes _ _ c.self.invariant c.other.invariant

pub returns : goal.returns
returns c = join_is _ _ c.self.invariant c.other.invariant c.join_each.ensures ∙ same_join c.self.view_is c.other.view_is
