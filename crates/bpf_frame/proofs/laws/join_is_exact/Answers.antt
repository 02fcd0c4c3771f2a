use Rattle.std.proofs.Common.{◌∙◌, sym}
use Rattle.bpf_frame.specs.OrderLaws.{get_or-join, slot_kind-join}
use Rattle.bpf_frame.proofs.laws.join_is_exact.Goals as goal

pub returns-clause-byte : goal.returns-clause-byte
returns-clause-byte c = λ map other at proper proper_other. get_or-join map.marks other.marks at (proper.count ∙ sym proper_other.count)

pub returns-clause-kind : goal.returns-clause-kind
returns-clause-kind c = slot_kind-join
