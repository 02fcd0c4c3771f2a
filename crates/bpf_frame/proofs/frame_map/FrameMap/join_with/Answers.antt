use Rattle.std.proofs.Common.{sym, subst, ◌∙◌}
use Rattle.bpf_frame.specs.FrameMap.{IsProper}
use Rattle.bpf_frame.specs.OrderLaws.{join_is_proper}
use Rattle.bpf_frame.proofs.LaneLemmas.{and_are_lanes, join_is, same_join}
use Rattle.bpf_frame.proofs.frame_map.FrameMap.join_with.Goals as goal

pub invariant_of-self : goal.invariant_of-self
invariant_of-self c = and_are_lanes _ _ c.self.invariant c.other.invariant

pub returns-clause-value : goal.returns-clause-value
returns-clause-value c = join_is _ _ c.self.invariant c.other.invariant c.join_each.ensures ∙ same_join c.self.view_is c.other.view_is

pub returns-clause-proper : goal.returns-clause-proper
returns-clause-proper c = subst IsProper (sym (returns-clause-value c))
    (join_is_proper c.args.self.now c.args.other.now c.requires.proper c.requires.other)
