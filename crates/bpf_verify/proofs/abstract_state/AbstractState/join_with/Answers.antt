use Rattle.std.proofs.Common.{sym, subst, arith}
use Rattle.bpf_verify.specs.LiftedState.{IsProperState}
use Rattle.bpf_kinds.proofs.ListLemmas.{is_join_kinds}
use Rattle.bpf_verify.proofs.StateLaws.{join_known_is_proper}
use Rattle.bpf_verify.proofs.abstract_state.AbstractState.join_with.Goals as goal

pub returns-clause-value : goal.returns-clause-value
returns-clause-value c =
    let registers = is_join_kinds c.args.self.now.registers c.args.other.now.registers c.loop-register.self.registers 11
    c.requires.proper.count c.requires.other.count c.loop-register.invariant.count
    (λ register below. c.loop-register.invariant.joined register (omega arith)) in
    let frame = c.loop-register.invariant.frame in
    cc

pub returns-clause-proper : goal.returns-clause-proper
returns-clause-proper c =
    subst IsProperState (sym (returns-clause-value c))
    (join_known_is_proper c.args.self.now c.args.other.now c.requires.proper c.requires.other)
