use Rattle.std.proofs.Common.{rules, sym, ◌∙◌}
use Rattle.std.specs.Prelude.{FitsSigned}
use Rattle.std.specs.Int.{w16}
use Rattle.bpf_kinds.proofs.MovingLaws.{if_some, move_by-admits, move_by-proper}
use Rattle.bpf_kinds.proofs.MovingLemmas.{sum_end}
use Rattle.bpf_kinds.proofs.offsets.Offsets.move_by.Goals as goal

pub returns-clause-value : goal.returns-clause-value
returns-clause-value c =
    let self_low : FitsSigned w16 c.args.self.low = search rules in
    let self_high : FitsSigned w16 c.args.self.high = search rules in
    let low : FitsSigned w16 c.args.distances.low = search rules in
    let high : FitsSigned w16 c.args.distances.high = search rules in
    let e-low = sum_end _ _ c.args.self.low c.args.distances.low self_low low c.from.ensures c.from-2.ensures in
    let e-high = sum_end _ _ c.args.self.high c.args.distances.high self_high high c.from-3.ensures c.from-4.ensures in
    rw (e-low, e-high) at c.if_offsets.ensures

pub returns-clause-admits : goal.returns-clause-admits
returns-clause-admits c = λ offset distance here by.
    if_some c.if_offsets.result _
    (λ moved some. (move_by-admits c.args.self c.args.distances moved offset distance (sym (returns-clause-value c) ∙ some) here by).1)

pub returns-clause-proper : goal.returns-clause-proper
returns-clause-proper c = λ proper near.
    if_some c.if_offsets.result _
    (λ moved some. move_by-proper c.args.self c.args.distances moved proper near (sym (returns-clause-value c) ∙ some))
