use Rattle.bpf_verify.proofs.WorklistLemmas.{initial_is_proper}
use Rattle.bpf_verify.proofs.worklist.Worklist.new.Goals as goal

pub invariant_of-result : goal.invariant_of-result
invariant_of-result g c = rw (c.new-2.ensures.empty, c.in_ok-entry.ensures.ok, c.entry.ensures.value)
    (initial_is_proper c.args.flow.now.code c.requires)
