use Rattle.std.proofs.Common.{◌∙◌}
use Rattle.bpf_kinds.proofs.BitLemmas.{greatest_of_length-shift}
use Rattle.bpf_kinds.proofs.operation.greatest_of_length.Goals as goal

pub returns : goal.returns
returns c = c.unbounded_shr.ensures ∙ greatest_of_length-shift c.args.n
