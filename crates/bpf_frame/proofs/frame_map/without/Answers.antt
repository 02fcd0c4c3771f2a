use Rattle.bpf_frame.proofs.LaneLemmas.{without_are_lanes, mark_without}
use Rattle.bpf_frame.proofs.frame_map.without.Goals as goal

pub returns-clause-lanes : goal.returns-clause-lanes
returns-clause-lanes c = without_are_lanes _ _ c.requires.lanes c.requires.others

pub returns-clause-marks : goal.returns-clause-marks
returns-clause-marks c = λ at. mark_without _ _ at c.requires.lanes c.requires.others
