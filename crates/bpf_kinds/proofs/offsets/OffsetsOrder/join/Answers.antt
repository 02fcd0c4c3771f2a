use Rattle.std.proofs.Common.{rules, FitsSigned, w16}
use Rattle.std.proofs.lemmas.Int.{to_z-of_z}
use Rattle.bpf_kinds.proofs.offsets.OffsetsOrder.join.Goals as goal

pub returns : goal.returns
returns c =
    let self_low : FitsSigned w16 c.args.self.now.low = search rules in
    let self_high : FitsSigned w16 c.args.self.now.high = search rules in
    let other_low : FitsSigned w16 c.args.other.now.low = search rules in
    let other_high : FitsSigned w16 c.args.other.now.high = search rules in
    let low : FitsSigned w16 c.min.result = search rules in
    let high : FitsSigned w16 c.max.result = search rules in
    let low_value = simp to_z-of_z at c.min.ensures.value in
    let high_value = simp to_z-of_z at c.max.ensures.value in
    simp to_z-of_z (cc)
