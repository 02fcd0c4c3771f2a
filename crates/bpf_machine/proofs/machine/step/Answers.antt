use Rattle.std.proofs.Common.{subst}
use Rattle.bpf_meaning.specs.Step.{after}
use Rattle.bpf_machine.specs.Machine.{StepsTo}
use Rattle.bpf_machine.proofs.MachineLemmas.{next_is_reachable}
use Rattle.bpf_machine.proofs.machine.step.Goals as goal

pub returns-in-Some-clause-continues : goal.returns-in-Some-clause-continues
returns-in-Some-clause-continues g c = λ none.
    let code = c.args.verified.now.code in
    let reachable = c.requires in
    next_is_reachable code c.args.segment.now reachable.state c.args.bare.now (record c.step_from.new.bare { at = c.in-Some.next }) reachable.reached
    (subst (λ to. StepsTo code (after code c.args.segment.now reachable.state) to c.args.bare.now c.step_from.new.bare) c.in-Some.is
    (c.step_from.ensures reachable.state reachable.reached reachable.holds))
