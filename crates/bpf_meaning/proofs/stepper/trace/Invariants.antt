use Rattle.bpf_meaning.proofs.RunLemmas.{IsReachable}
use Rattle.bpf_meaning.proofs.stepper.trace.Given as goal

-- some run of this many steps is in this state and hasn't ended
abbrev pub invariant-loop-steps : goal.invariant-loop-steps
invariant-loop-steps g l = IsReachable l.code l.segment l._steps l.state
