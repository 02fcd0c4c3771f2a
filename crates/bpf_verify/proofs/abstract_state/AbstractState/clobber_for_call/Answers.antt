use Rattle.std.proofs.Common.{sym, subst, rules}
use Rattle.bpf_verify.specs.LiftedState.{IsProperState}
use Rattle.bpf_verify.proofs.CallLemmas.{state_after_is_proper}
use Rattle.bpf_verify.proofs.abstract_state.AbstractState.clobber_for_call.Goals as goal

pub returns-clause-value : goal.returns-clause-value
returns-clause-value c = search rules

pub returns-clause-proper : goal.returns-clause-proper
returns-clause-proper c =
    subst IsProperState (sym (returns-clause-value c))
    (state_after_is_proper c.args.answer c.args.self.now c.requires.answer c.requires.proper)
