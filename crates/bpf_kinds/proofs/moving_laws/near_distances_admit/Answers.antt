use Rattle.bpf_kinds.proofs.MovingLaws.{near-proper, near-admits}
use Rattle.bpf_kinds.proofs.moving_laws.near_distances_admit.Goals as goal

pub returns : goal.returns
returns c = record { proper = near-proper; admits = near-admits }
