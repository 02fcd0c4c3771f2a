use Rattle.std.proofs.Common.{refl, arith}
use Rattle.std.proofs.lemmas.List.{get_or-set_same, get_or-set_other}
use Rattle.bpf_frame.proofs.MarkLemmas.{get_or-unfit_marks}
use Rattle.bpf_frame.proofs.ProperLemmas.{slot_in_frame, fit_here, set_slot_is_proper}
use Rattle.bpf_kinds.specs.declared.kind.Kind.TheVariants.{Number, Record, Frame, Nothing}
use Rattle.bpf_frame.proofs.laws.set_slot_is_exact.Goals as goal

pub returns-clause-proper : goal.returns-clause-proper
returns-clause-proper c = set_slot_is_proper

pub returns-clause-kind : goal.returns-clause-kind
returns-clause-kind c = λ map slot k proper within. get_or-set_same map.kinds slot k Nothing (omega (arith, proper.slots))

pub returns-clause-leaves : goal.returns-clause-leaves
returns-clause-leaves c = λ map slot other k apart. get_or-set_other map.kinds slot other k Nothing apart

pub returns-clause-number : goal.returns-clause-number
returns-clause-number c = λ map slot at x proper within same.
    fit_here (Number x) map.marks slot at (slot_in_frame map slot proper within) same

pub returns-clause-record_pointer : goal.returns-clause-record_pointer
returns-clause-record_pointer c = λ map slot at x proper within same.
    fit_here (Record x) map.marks slot at (slot_in_frame map slot proper within) same

pub returns-clause-frame_pointer : goal.returns-clause-frame_pointer
returns-clause-frame_pointer c = λ map slot at x proper within same.
    fit_here (Frame x) map.marks slot at (slot_in_frame map slot proper within) same

pub returns-clause-nothing : goal.returns-clause-nothing
returns-clause-nothing c = λ map slot. refl

pub returns-clause-others : goal.returns-clause-others
returns-clause-others c = λ map slot at k proper within apart.
    get_or-unfit_marks k map.marks slot at (slot_in_frame map slot proper within) apart
