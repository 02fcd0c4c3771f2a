use Rattle.std.proofs.Common.{◌≡◌, ◌+◌, length, refl, sym, subst, arith}
use Rattle.std.proofs.lemmas.Bool.{both_ways}
use Rattle.std.proofs.lemmas.Bool.Decides.{same_from_decides}
use Rattle.bpf_frame.specs.FrameMap.{Contents, IsMarked}
use Rattle.bpf_frame.proofs.LaneLemmas.{length-marks_of}
use Rattle.bpf_frame.proofs.RangeLemmas.{one_lane_has, lane_of_marks}
use Rattle.bpf_frame.proofs.ReadLemmas.{all_written_is}
use Rattle.bpf_frame.proofs.frame_map.FrameMap.all_written.Goals as goal

pub loop-lane-preserved : goal.loop-lane-preserved
loop-lane-preserved c = one_lane_has _ _ _ _ _ _ c.self.invariant
    (omega arith) c.index.ensures c.bits_within-bits.ensures c.loop-lane.invariant c.if-index-bits.false

pub returns-then-index-bits-clause-written : goal.returns-then-index-bits-clause-written
returns-then-index-bits-clause-written c =
    let same = lane_of_marks c.self.inside.lanes c.args.from (c.args.to + 1) _ _ _ c.self.invariant
    (omega arith) c.index.ensures c.bits_within-bits.ensures (omega arith) in (
      λ is. absurd (both_ways _ refl is),
      λ all. absurd (c.if-index-bits.true (same (λ at above below. let marked : Contents → Type 0 = λ map. IsMarked map.marks at in
          subst marked (sym c.self.view_is) (all at above (omega arith))))),
    )

pub returns-then-index-bits-clause-value : goal.returns-then-index-bits-clause-value
returns-then-index-bits-clause-value c =
    let count : length c.args.self.now.marks ≡ 512 = subst (λ (map : Contents). length map.marks ≡ 512) c.self.view_is
    (length-marks_of _) in
    same_from_decides _ _ (returns-then-index-bits-clause-written c)
    (all_written_is _ c.args.from c.args.to c.requires.ordered (omega arith))

pub returns-else-index-bits-clause-written : goal.returns-else-index-bits-clause-written
returns-else-index-bits-clause-written c =
    let last = one_lane_has _ _ _ _ _ _ c.self.invariant (omega arith) c.index.ensures c.bits_within-bits.ensures c.loop-lane.invariant
    c.if-index-bits.false in (
      λ _ at above below. let marked : Contents → Type 0 = λ map. IsMarked map.marks at in
          subst marked c.self.view_is (last.marks at above (omega arith) (omega arith)),
      λ _. refl,
    )

pub returns-else-index-bits-clause-value : goal.returns-else-index-bits-clause-value
returns-else-index-bits-clause-value c =
    let count : length c.args.self.now.marks ≡ 512 = subst (λ (map : Contents). length map.marks ≡ 512) c.self.view_is
    (length-marks_of _) in
    same_from_decides _ _ (returns-else-index-bits-clause-written c)
    (all_written_is _ c.args.from c.args.to c.requires.ordered (omega arith))
