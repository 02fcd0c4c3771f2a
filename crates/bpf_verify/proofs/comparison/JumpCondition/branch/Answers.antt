use Rattle.std.proofs.Common.{sym, ◌∙◌}
use Rattle.bpf_kinds.proofs.NarrowingLaws.{refine-within}
use Rattle.bpf_verify.proofs.StateLaws.{with_narrowed_is_proper}
use Rattle.bpf_verify.proofs.comparison.JumpCondition.branch.Goals as goal

pub returns-in-Some-clause-proper : goal.returns-in-Some-clause-proper
returns-in-Some-clause-proper c =
    let both = refine-within c.args.self.condition c.args.self.width c.args.taken c.requires.left c.requires.right
    (sym c.refine.ensures.value ∙ c.in-Some.is) in
    with_narrowed_is_proper c.args.known.now c.args.self.left.number c.args.self.right c.in-Some.both c.requires.known both.0 both.1
