use Rattle.std.proofs.Common.{sym, subst, arith, refl, IsOk}
use Rattle.bpf_meaning.specs.Step.{after}
use Rattle.bpf_machine.proofs.StepHeld.{forward_jump, same_next, steps_to, within_on}
use Rattle.bpf_machine.proofs.machine.step_from.Goals as goal

pub offset_bounds-flat_forms-at : goal.offset_bounds-flat_forms-at
offset_bounds-flat_forms-at g c =
    let within = within_on c.requires.forms c.args.segment.now c.bytes-bytes.ensures.whole c.requires.reachable in
    let all = c.requires.forms.forms.count_is in omega (arith, c.requires.fit)

pub bounds-flat_forms-at : goal.bounds-flat_forms-at
bounds-flat_forms-at g c =
    let within = within_on c.requires.forms c.args.segment.now c.bytes-bytes.ensures.whole c.requires.reachable in
    let all = c.requires.forms.forms.count_is in omega arith

pub overflow_add-at : goal.overflow_add-at
overflow_add-at g c =
    let within = within_on c.requires.forms c.args.segment.now c.bytes-bytes.ensures.whole c.requires.reachable in
    let all = c.requires.forms.forms.count_is in omega (arith, c.requires.fit)

pub execute-requires-clause-possible : goal.execute-requires-clause-possible
execute-requires-clause-possible g c =
    let leads = forward_jump c.requires.forms c.args.segment.now c.bytes-bytes.ensures.whole c.index-flat_forms-at.result
    c.requires.reachable c.index-flat_forms-at.is in
    subst IsOk (sym leads.leads) refl

pub execute-requires-clause-meets : goal.execute-requires-clause-meets
execute-requires-clause-meets g c =
    let leads = forward_jump c.requires.forms c.args.segment.now c.bytes-bytes.ensures.whole c.index-flat_forms-at.result
    c.requires.reachable c.index-flat_forms-at.is in
    leads.meets

pub returns : goal.returns
returns g c = λ state reached holds.
    let leads = forward_jump c.requires.forms c.args.segment.now c.bytes-bytes.ensures.whole c.index-flat_forms-at.result
    (record { state = state; reached = reached; holds = holds }) c.index-flat_forms-at.is in
    steps_to c.args.verified.now.code (after c.args.verified.now.code c.args.segment.now state) c.execute.result c.args.bare.now
    c.execute.new.bare leads.holds (same_next _ _ _ _ leads.leads c.execute.ensures.value refl) c.execute.ensures.unchanged
