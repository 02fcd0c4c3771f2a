use Rattle.std.proofs.Common.{refl}
use Rattle.bpf_frame.proofs.ProperLemmas.{touch_is_proper}
use Rattle.bpf_frame.proofs.SlotLemmas.{touch_forgets, touch_leaves}
use Rattle.bpf_frame.proofs.laws.touch_is_exact.Goals as goal

pub returns-clause-proper : goal.returns-clause-proper
returns-clause-proper c = touch_is_proper

pub returns-clause-byte : goal.returns-clause-byte
returns-clause-byte c = λ map from to. refl

pub returns-clause-forgets : goal.returns-clause-forgets
returns-clause-forgets c = touch_forgets

pub returns-clause-leaves : goal.returns-clause-leaves
returns-clause-leaves c = touch_leaves
