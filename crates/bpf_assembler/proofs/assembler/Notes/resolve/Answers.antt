use Rattle.std.proofs.Common.{◌≡◌, ◌+◌, ℤ, pos, ◌-ℤ◌, sym, ap, ◌∙◌, rules}
use Rattle.std.specs.Int.{w64}
use mir.Val.{to_z, of_z, SFits}
use Rattle.std.proofs.lemmas.Int.{to_z-of_z}
use Rattle.bpf_assembler.specs.Text.{jump_by, at_distance}
use Rattle.bpf_assembler.proofs.NoteLemmas.{resolve-found}
use Rattle.bpf_assembler.proofs.assembler.Notes.resolve.Goals as goal

pub returns-in-Some-at_distance : goal.returns-in-Some-at_distance
returns-in-Some-at_distance g c = λ statements labels.
    let found = resolve-found statements c.args.item c.in-Some.name c.in-Some-get.target.now c.in-Some.is
    (sym (labels c.in-Some.name.now) ∙ sym c.in-Some-get.ensures.value) in
    let fits : SFits w64 c.distance.result = search rules in
    let value : to_z w64 (of_z w64 c.distance.result) ≡ pos c.in-Some-get.target.now -ℤ pos (c.args.item.place + 1) =
    to_z-of_z w64 _ fits ∙ c.distance.ensures in
    ap jump_by c.in-Some-at_distance.ensures ∙ ap (λ (d : ℤ). jump_by (at_distance d c.args.item.insn)) value ∙ sym found

pub returns-in-None : goal.returns-in-None
returns-in-None g c = λ statements labels.
    let found = resolve-found statements c.args.item c.in-Some.name c.in-Some-get.target.now c.in-Some.is
    (sym (labels c.in-Some.name.now) ∙ sym c.in-Some-get.ensures.value) in
    let fits : SFits w64 c.distance.result = search rules in
    let value : to_z w64 (of_z w64 c.distance.result) ≡ pos c.in-Some-get.target.now -ℤ pos (c.args.item.place + 1) =
    to_z-of_z w64 _ fits ∙ c.distance.ensures in
    ap jump_by c.in-None.ensures ∙ ap (λ (d : ℤ). jump_by (at_distance d c.args.item.insn)) value ∙ sym found
