use Rattle.bpf_verify.proofs.CheckMonotone as is_monotone
use Rattle.bpf_verify.proofs.MonotoneChecks.{is_lower}
use Rattle.bpf_verify.proofs.MonotoneComparison.{compare_lower}
use Rattle.bpf_verify.proofs.MonotoneMemory.{store_at_lower}
use Rattle.bpf_verify.proofs.laws.checks_are_monotone.Goals as goal

pub returns-clause-read : goal.returns-clause-read
returns-clause-read c = is_monotone.read_is_monotone

pub returns-clause-base : goal.returns-clause-base
returns-clause-base c = is_monotone.base_is_monotone

pub returns-clause-load : goal.returns-clause-load
returns-clause-load c = λ lower higher. is_monotone.load_is_monotone

pub returns-clause-store : goal.returns-clause-store
returns-clause-store c = λ lower higher x n offset size k l below proper within proper_kind stored.
    store_at_lower below offset (record { within = within; ordered = proper.ordered }) size k l (is_lower k l stored proper_kind)

pub returns-clause-argument : goal.returns-clause-argument
returns-clause-argument c = is_monotone.argument_is_monotone

pub returns-clause-call : goal.returns-clause-call
returns-clause-call c = is_monotone.call_is_monotone

pub returns-clause-compare : goal.returns-clause-compare
returns-clause-compare c = λ lower higher comparison x y m n below proper_m proper_n first second.
    compare_lower below comparison x y m n (is_lower x m first proper_m) (is_lower y n second proper_n)
