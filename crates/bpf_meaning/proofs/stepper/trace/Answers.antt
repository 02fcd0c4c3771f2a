use Rattle.std.proofs.Common.{arith}
use Rattle.bpf_meaning.proofs.RunLemmas.{continues, traces_end, traces_on}
use Rattle.bpf_meaning.proofs.stepper.trace.Goals as goal

pub loop-steps-preserved : goal.loop-steps-preserved
loop-steps-preserved g c =
    continues c.args.code.now c.args.segment.now c.loop-steps._steps c.loop-steps.state c.step.new.state c.loop-steps.invariant
    c.in-Running.ensures.next

pub returns-in_default : goal.returns-in_default
returns-in_default g c =
    traces_end c.args.limit c.step.new.state _ c.loop-steps.invariant
    c.loop-steps-test.true c.step.ensures.next c.in_default.not-Running

pub returns : goal.returns
returns g c = traces_on c.args.code.now c.args.segment.now c.loop-steps._steps c.args.limit c.loop-steps.state c.loop-steps.invariant
    (omega arith)
