use Rattle.std.proofs.Common.{subst}
use Rattle.bpf_verify.proofs.CauseLemmas.{IsOfCheck, refused_is}
use Rattle.bpf_verify.proofs.laws.refusals_are_of_checks.Goals as goal

pub returns-clause-program : goal.returns-clause-program
returns-clause-program c = λ code place cause refused same. subst IsOfCheck same (refused_is code place cause refused)

pub returns-clause-wide_load : goal.returns-clause-wide_load
returns-clause-wide_load c = λ code place cause refused same. subst IsOfCheck same (refused_is code place cause refused)
