use Rattle.std.proofs.Common.{sym, ap, ◌∙◌, refl, subst}
use Rattle.std.specs.Prelude.{slice_set}
use Rattle.bpf_frame.specs.FrameMap.{Contents, IsProper, set_slot}
use Rattle.bpf_frame.specs.OrderLaws.{same_maps}
use Rattle.bpf_frame.proofs.LaneLemmas.{contents}
use Rattle.bpf_frame.proofs.ProperLemmas.{set_slot_is_proper}
use Rattle.bpf_frame.proofs.frame_map.FrameMap.set_slot.Goals as goal

pub returns-clause-value : goal.returns-clause-value
returns-clause-value c =
    same_maps (contents c.fit_lanes-self-inside.result (slice_set c.self.inside.kinds c.args.slot c.args.kind))
    (set_slot (contents c.self.inside.lanes c.self.inside.kinds) c.args.slot c.args.kind) c.fit_lanes-self-inside.ensures.marks refl
    ∙ ap (λ (map : Contents). set_slot map c.args.slot c.args.kind) c.self.view_is

pub returns-clause-proper : goal.returns-clause-proper
returns-clause-proper c =
    subst IsProper (sym (returns-clause-value c)) (set_slot_is_proper c.args.self.now c.args.slot c.args.kind c.requires.proper
    c.requires.within c.requires.kind)
