use Rattle.std.proofs.Common.{sym, ap, ◌∙◌, subst, arith}
use Rattle.bpf_frame.specs.FrameMap.{Contents, IsProper, mark}
use Rattle.bpf_frame.specs.OrderLaws.{same_maps}
use Rattle.bpf_frame.proofs.LaneLemmas.{contents}
use Rattle.bpf_frame.proofs.ProperLemmas.{mark_is_proper}
use Rattle.bpf_frame.proofs.RangeLemmas.{or_are_lanes, marks_of-or}
use Rattle.bpf_frame.proofs.SlotLemmas.{overwrite_some}
use Rattle.bpf_frame.proofs.frame_map.FrameMap.mark.Goals as goal

pub invariant_of-self : goal.invariant_of-self
invariant_of-self c = or_are_lanes _ _ c.self.invariant c.lanes_of_range.ensures.lanes

pub returns-then-len-gt0-clause-value : goal.returns-then-len-gt0-clause-value
returns-then-len-gt0-clause-value c =
    same_maps (contents _ c.clear.new.kinds) (mark (contents c.self.inside.lanes c.self.inside.kinds) c.args.from c.args.len)
    (marks_of-or _ _ c.args.from c.args.len c.self.invariant c.lanes_of_range.ensures.lanes c.requires.within
    c.lanes_of_range.ensures.marks)
    (c.clear.ensures ∙ overwrite_some _ c.self.inside.kinds c.args.from c.args.len (omega arith))
    ∙ ap (λ (map : Contents). mark map c.args.from c.args.len) c.self.view_is

pub returns-then-len-gt0-clause-proper : goal.returns-then-len-gt0-clause-proper
returns-then-len-gt0-clause-proper c =
    subst IsProper (sym (returns-then-len-gt0-clause-value c))
    (mark_is_proper c.args.self.now c.args.from c.args.len c.requires.proper c.requires.within)
