use Rattle.std.proofs.Common.{◌≡◌, ◌∙◌, ap, arith}
use Rattle.bpf_insn.proofs.PlaceLemmas.{place_of_index, places_enough}
use Rattle.bpf_insn.proofs.code.Code.place.Goals as goal

pub index-requires : goal.index-requires
index-requires g c =
    let same : c.self.inside.built ≡ c.args.self.now = c.self.view_is in
    let enough = places_enough _ _ c.args.self.now c.args.index c.self-inside.invariant.0
    (ap (λ s. s.built) c.self-inside.view_is ∙ same) c.requires in
    omega arith

pub returns : goal.returns
returns g c =
    let same : c.self.inside.built ≡ c.args.self.now = c.self.view_is in
    c.index.ensures ∙ place_of_index _ _ c.args.self.now c.args.index c.index.result.now c.self-inside.invariant.0
    (ap (λ s. s.built) c.self-inside.view_is ∙ same) c.requires
