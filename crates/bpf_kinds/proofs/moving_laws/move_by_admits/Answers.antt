use Rattle.bpf_kinds.proofs.MovingLaws.{move_by-proper, move_by-admits}
use Rattle.bpf_kinds.proofs.moving_laws.move_by_admits.Goals as goal

pub returns : goal.returns
returns c = record { proper = move_by-proper; admits = move_by-admits }
