use Rattle.std.proofs.Common.{ℕ, ◌*◌, Bool, List, subst, inl, inr, sym, ap, ◌∙◌, arith}
use Rattle.bpf_frame.specs.FrameMap.{fit_marks}
use Rattle.bpf_frame.specs.Lanes.{AreLanes, marks_of}
use Rattle.bpf_frame.proofs.RangeLemmas.{or_are_lanes, marks_of-or, marks_of-without}
use Rattle.bpf_insn.specs.declared.memory.TheConstants.{SLOT_LENGTH}
use Rattle.bpf_kinds.specs.declared.kind.Kind.{Kind}
use Rattle.bpf_frame.proofs.frame_map.fit_lanes.Goals as goal
use Rattle.bpf_frame.proofs.frame_map.fit_lanes.Goals.{in-Number, in-Record, in-Nothing}

pub returns-clause-marks : goal.returns-clause-marks
returns-clause-marks c =
    let first : ℕ = SLOT_LENGTH * c.args.slot in
    let range = c.lanes_of_range-range.ensures in
    let fitted : Kind → List Bool = λ k. fit_marks k (marks_of c.args.lanes) c.args.slot in
    elim c.match-kind.branch [
      | in-Number w ↦ ap marks_of w.result-is ∙ marks_of-or _ _ first SLOT_LENGTH c.requires.lanes range.lanes (omega arith) range.marks
          ∙ ap fitted (sym w.in-Number.is)
      | in-Record w ↦
          ap marks_of w.result-is ∙ marks_of-without _ _ _ first SLOT_LENGTH (omega arith) range.marks w.without.ensures.marks ∙
          elim w.in-Record.is [
            | inl into ↦ ap fitted (sym into.1)
            | inr into ↦ ap fitted (sym into.1)
          ]
      | in-Nothing w ↦ ap marks_of w.result-is ∙ ap fitted (sym w.in-Nothing.is)
    ]

pub returns-clause-lanes : goal.returns-clause-lanes
returns-clause-lanes c =
    let are_lanes : List ℕ → Type 0 = AreLanes in
    elim c.match-kind.branch [
      | in-Number w ↦ subst are_lanes (sym w.result-is) (or_are_lanes _ _ c.requires.lanes c.lanes_of_range-range.ensures.lanes)
      | in-Record w ↦ subst are_lanes (sym w.result-is) w.without.ensures.lanes
      | in-Nothing w ↦ subst are_lanes (sym w.result-is) c.requires.lanes
    ]
