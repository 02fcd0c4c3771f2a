use Rattle.bpf_frame.proofs.AdmitLemmas.{mark_admits, touch_admits, set_slot_admits}
use Rattle.bpf_frame.proofs.laws.possible_frames_are_preserved.Goals as goal

pub returns-clause-mark : goal.returns-clause-mark
returns-clause-mark c = λ map from len before after proper within admitted. mark_admits after proper admitted from len within

pub returns-clause-touch : goal.returns-clause-touch
returns-clause-touch c =
    λ map from to before after proper ordered within admitted. touch_admits after proper admitted from to ordered within

pub returns-clause-set_slot : goal.returns-clause-set_slot
returns-clause-set_slot c =
    λ map slot k before after proper within whole known admitted. set_slot_admits after proper admitted slot k within whole known
