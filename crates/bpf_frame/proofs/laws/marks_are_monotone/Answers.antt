use Rattle.std.proofs.Common.{arith}
use Rattle.bpf_frame.proofs.MarkLemmas.{all_written_within}
use Rattle.bpf_frame.proofs.MonotoneLemmas.{mark_is_monotone, touch_is_monotone, set_slot_is_monotone}
use Rattle.bpf_frame.proofs.laws.marks_are_monotone.Goals as goal

pub returns-clause-mark : goal.returns-clause-mark
returns-clause-mark c = λ map other from len proper proper_other short within. mark_is_monotone proper proper_other within from len short

pub returns-clause-touch : goal.returns-clause-touch
returns-clause-touch c = λ map other from to proper proper_other ordered short within.
    touch_is_monotone proper proper_other within from to from to (omega arith) ordered (omega arith) short

pub returns-clause-set_slot : goal.returns-clause-set_slot
returns-clause-set_slot c = λ map other slot k l proper proper_other inside known below within.
    set_slot_is_monotone proper proper_other within slot k l inside known below

pub returns-clause-slot : goal.returns-clause-slot
returns-clause-slot c = λ map other slot within. within.kinds slot

pub returns-clause-all_written : goal.returns-clause-all_written
returns-clause-all_written c = all_written_within
