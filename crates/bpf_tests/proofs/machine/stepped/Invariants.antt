use Rattle.bpf_machine.specs.Machine.{IsReachable}
use Rattle.bpf_tests.proofs.machine.stepped.Given as goal

-- the machine is in the middle of its run
abbrev pub invariant-loop-steps : goal.invariant-loop-steps
invariant-loop-steps g l = IsReachable l.verified.code l.segment l.bare
