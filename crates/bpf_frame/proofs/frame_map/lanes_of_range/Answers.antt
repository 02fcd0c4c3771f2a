use Rattle.std.proofs.Common.{arith}
use Rattle.bpf_frame.proofs.RangeLemmas.{no_range, one_lane_more}
use Rattle.bpf_frame.proofs.frame_map.lanes_of_range.Goals as goal

pub loop-lane-init : goal.loop-lane-init
loop-lane-init c = no_range c.args.from c.args.end

pub loop-lane-preserved : goal.loop-lane-preserved
loop-lane-preserved c =
    one_lane_more c.bits_within.result c.loop-lane.invariant (omega arith)
    (record { within = omega arith; fits = omega arith; inside = c.bits_within.ensures })

pub returns-clause-lanes : goal.returns-clause-lanes
returns-clause-lanes c = c.loop-lane.invariant.are_lanes

pub returns-clause-marks : goal.returns-clause-marks
returns-clause-marks c = λ at.
    let marks = c.loop-lane.invariant.marks at in (
      λ marked. let place = marks.0 marked in (place.0, place.1),
      λ inside. marks.1 (inside.0, inside.1, omega arith),
    )
