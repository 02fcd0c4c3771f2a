use Rattle.bpf_meaning.proofs.WellFormedLemmas.{effect_within}
use Rattle.bpf_meaning.proofs.stepper.step.Goals as goal

pub apply-requires : goal.apply-requires
apply-requires g c = effect_within c.args.code.now c.args.segment.now c.args.state.now c.in-Ok.effect c.in-Ok.ensures
