use Rattle.bpf_kinds.proofs.NarrowingLaws.{refine-within}
use Rattle.bpf_kinds.proofs.narrowing_laws.refine_within.Goals as goal

pub returns : goal.returns
returns c = refine-within
