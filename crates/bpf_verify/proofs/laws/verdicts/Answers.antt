use Rattle.bpf_verify.proofs.VerdictLemmas as lemmas
use Rattle.bpf_verify.proofs.laws.verdicts.Goals as goal

pub returns-clause-accepted : goal.returns-clause-accepted
returns-clause-accepted c = lemmas.accepted_or_refused

pub returns-clause-refused : goal.returns-clause-refused
returns-clause-refused c = lemmas.one_refusal

pub returns-clause-areas : goal.returns-clause-areas
returns-clause-areas c = lemmas.one_list_of_areas
