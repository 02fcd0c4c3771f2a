use Rattle.std.proofs.Common.{ℕ, ◌<◌, get_or}
use Rattle.bpf_kinds.specs.Kind as kind
use Rattle.bpf_kinds.specs.declared.kind.Kind.TheVariants.{Nothing}
use Rattle.bpf_frame.proofs.frame_map.are_within.Given as goal

abbrev pub invariant-loop-slot : goal.invariant-loop-slot
invariant-loop-slot l = (slot : ℕ) → slot < l.slot → kind.IsWithin (get_or l.kinds slot Nothing) (get_or l.others slot Nothing)
