use Rattle.bpf_meaning.specs.declared.state.State.{State}
use Rattle.bpf_meaning.proofs.RunLemmas.{IsReachable}
use Rattle.bpf_machine.specs.Machine.{HoldsState}
use Rattle.bpf_machine.proofs.machine.run_in.Given as goal

-- a run with this number of steps is on its way in a state that the machine holds at the entry
abbrev pub invariant-loop-steps : goal.invariant-loop-steps
invariant-loop-steps g l =
    (state : State) × IsReachable l.verified.code l.segment l._steps state × HoldsState l.verified.code state (record l.bare { at = l.at })
