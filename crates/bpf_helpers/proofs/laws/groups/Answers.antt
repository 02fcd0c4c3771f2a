use Rattle.std.proofs.Common.{sym}
use Rattle.bpf_helpers.proofs.CallLemmas.{group-is}
use Rattle.bpf_helpers.proofs.laws.groups.Goals as goal

pub returns : goal.returns
returns c = λ helper. sym (group-is helper)
