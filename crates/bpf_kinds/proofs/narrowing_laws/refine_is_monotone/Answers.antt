use Rattle.bpf_kinds.proofs.NarrowingMonotone.{refine_is_monotone}
use Rattle.bpf_kinds.proofs.narrowing_laws.refine_is_monotone.Goals as goal

pub returns : goal.returns
returns c = λ condition width x y a b taken both proper-x proper-y left right. refine_is_monotone condition width taken
    (record { within = left; ordered = proper-x.ordered }) (record { within = right; ordered = proper-y.ordered })
