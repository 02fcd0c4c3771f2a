use Rattle.std.proofs.Common.{◌+◌, Bool, List, ap, ⊎_elim}
use Rattle.bpf_frame.specs.FrameMap.{Contents}
use Rattle.bpf_frame.proofs.MarkLemmas.{mark_none, mark_preserves, marked_inside, marked_before_or_inside}
use Rattle.bpf_frame.proofs.ProperLemmas.{in_frame, mark_is_proper}
use Rattle.bpf_frame.proofs.SlotLemmas.{mark_forgets, mark_leaves}
use Rattle.bpf_frame.proofs.laws.mark_is_exact.Goals as goal

pub returns-clause-proper : goal.returns-clause-proper
returns-clause-proper c = mark_is_proper

pub returns-clause-byte : goal.returns-clause-byte
returns-clause-byte c = λ map from len at proper within.
    let short = in_frame map (from + len) proper within in (
      marked_before_or_inside map.marks from len at short,
      ⊎_elim (mark_preserves map.marks from len at short) (λ inside. marked_inside map.marks from len at short inside.0 inside.1),
    )

pub returns-clause-forgets : goal.returns-clause-forgets
returns-clause-forgets c = mark_forgets

pub returns-clause-leaves : goal.returns-clause-leaves
returns-clause-leaves c = mark_leaves

pub returns-clause-none : goal.returns-clause-none
returns-clause-none c = λ map from proper within. ap
    (λ (marks : List Bool). let same : Contents = record { marks = marks; kinds = map.kinds } in same)
    (mark_none map.marks from (in_frame map from proper within))
