use Rattle.std.proofs.Common.{sym, subst, arith}
use Rattle.bpf_meaning.specs.Step.{after}
use Rattle.bpf_meaning.proofs.RunLemmas.{continues}
use Rattle.bpf_machine.specs.Machine.{StepsTo}
use Rattle.bpf_machine.proofs.MachineLemmas.{comes_to_answer, has_ended, has_exited, reached_by, went_on}
use Rattle.bpf_machine.proofs.machine.run_in.Goals as goal

pub step_from-requires-clause-reachable : goal.step_from-requires-clause-reachable
step_from-requires-clause-reachable g c =
    let found = c.loop-steps.invariant in
    record {
      state = found.0;
      reached = reached_by c.args.verified.now.code c.args.segment.now c.loop-steps._steps found.0 found.1;
      holds =
          found.2;
    }

pub returns-in-None : goal.returns-in-None
returns-in-None g c =
    let found = c.loop-steps.invariant in
    let code = c.args.verified.now.code in
    let reached = reached_by code c.args.segment.now c.loop-steps._steps found.0 found.1 in
    let leads = subst (λ to. StepsTo code (after code c.args.segment.now found.0) to c.loop-steps.bare c.step_from.new.bare) c.in-None.is
    (c.step_from.ensures found.0 reached found.2) in
    comes_to_answer code c.args.segment.now c.loop-steps._steps found.0 c.answer.result.r0 c.answer.result.score found.1
    (sym (has_ended code _ c.answer.result c.loop-steps.bare c.step_from.new.bare (leads c.answer.result c.answer.ensures)))

pub loop-steps-preserved : goal.loop-steps-preserved
loop-steps-preserved g c =
    let found = c.loop-steps.invariant in
    let code = c.args.verified.now.code in
    let reached = reached_by code c.args.segment.now c.loop-steps._steps found.0 found.1 in
    let leads = subst (λ to. StepsTo code (after code c.args.segment.now found.0) to c.loop-steps.bare c.step_from.new.bare) c.in-Some.is
    (c.step_from.ensures found.0 reached found.2) in
    let on = went_on code _ c.loop-steps.bare (record c.step_from.new.bare { at = c.in-Some.next }) leads in
    (on.0, continues code c.args.segment.now c.loop-steps._steps found.0 on.0 found.1 (sym on.1), on.2)

pub unreachable-requires : goal.unreachable-requires
unreachable-requires g c =
    let found = c.loop-steps.invariant in
    let all = c.flat_forms-flat_forms.ensures.forms.count_is in
    has_exited c.args.verified.now.code c.args.segment.now c.loop-steps._steps found.0
    (c.flat_forms-flat_forms.ensures.safe.exits c.args.segment.now c.bytes-bytes.ensures.whole) found.1
    (omega (arith, c.loop-steps-test.false))
