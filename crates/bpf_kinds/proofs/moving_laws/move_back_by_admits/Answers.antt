use Rattle.bpf_kinds.proofs.MovingLaws.{move_back_by-proper, move_back_by-admits}
use Rattle.bpf_kinds.proofs.moving_laws.move_back_by_admits.Goals as goal

pub returns : goal.returns
returns c = record { proper = move_back_by-proper; admits = move_back_by-admits }
