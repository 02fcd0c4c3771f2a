use Rattle.std.proofs.Common.{arith}
use Rattle.bpf_frame.proofs.ProperLemmas.{touch_is_proper}
use Rattle.bpf_frame.proofs.MonotoneLemmas.{all_written_falls, touch_widens, touch_lowers, mark_lowers, set_number_lowers, touch_is_monotone}
use Rattle.bpf_frame.proofs.MonotoneLemmas.{mark_within_touched}
use Rattle.bpf_frame.proofs.laws.marks_within_touched.Goals as goal

pub returns-clause-all_written : goal.returns-clause-all_written
returns-clause-all_written c = λ x a from to low high proper-x proper-a within. all_written_falls proper-x proper-a within from to low high

pub returns-clause-widens : goal.returns-clause-widens
returns-clause-widens c = λ x a. touch_widens

pub returns-clause-touch : goal.returns-clause-touch
returns-clause-touch c = λ x a from to low high proper-x proper-a above ordered below short within.
    touch_lowers proper-x proper-a low high short within from to above ordered below

pub returns-clause-mark : goal.returns-clause-mark
returns-clause-mark c = λ x a from len low high proper-x proper-a above below ordered short within.
    mark_lowers proper-x proper-a low high short within from len above below ordered

pub returns-clause-set_slot : goal.returns-clause-set_slot
returns-clause-set_slot c = λ x a slot low high n proper-x proper-a above below short within.
    set_number_lowers proper-x proper-a low high short within slot n above below

pub returns-clause-touch_and_mark : goal.returns-clause-touch_and_mark
returns-clause-touch_and_mark c = λ x a from to len less high proper-x proper-a fewer inside ordered below short within.
    let touched = touch_is_monotone proper-x proper-a within from to from high (omega arith) ordered below short in
    mark_within_touched (touch_is_proper x from to proper-x ordered (omega arith)) proper-a from high short touched
    from len less fewer (omega arith) (omega arith) (omega arith)
