use Rattle.std.proofs.lemmas.Bool.{eq-eqb, eqb-true}
use Rattle.bpf_frame.proofs.LaneLemmas.{leq_is, within_seen}
use Rattle.bpf_frame.proofs.frame_map.FrameMapOrder.leq.Goals as goal

pub returns-then-self-other-eq0 : goal.returns-then-self-other-eq0
returns-then-self-other-eq0 c =
    let seen = within_seen _ _ _ _ _ _ c.self.view_is c.other.view_is in
    let marks = (leq_is _ _ c.self.invariant c.other.invariant).0 (eq-eqb _ _ c.if-self-other-eq0.true) in
    (λ is. seen.0 (record { marks = marks; kinds = c.are_within.ensures.0 is }), λ within. c.are_within.ensures.1 (seen.1 within).kinds)

pub returns-else-self-other-eq0 : goal.returns-else-self-other-eq0
returns-else-self-other-eq0 c =
    let seen = within_seen _ _ _ _ _ _ c.self.view_is c.other.view_is in (
      λ is. absurd (c.if-self-other-eq0.false (eqb-true _ _ is)),
      λ within.
          (leq_is _ _ c.self.invariant c.other.invariant).1 (seen.1 within).marks,
    )
