use Rattle.std.proofs.Common.{◌≡◌, ℤ, ◌+ℤ◌, Result, Ok, to_z, of_z, w32, sym, ap, ◌∙◌, arith}
use Rattle.std.proofs.lemmas.Int.{ints}
use Rattle.bpf_meaning.specs.Checks.{◌>>=◌}
use Rattle.bpf_meaning.specs.Effect.{near_distance, offset_or}
use Rattle.bpf_meaning.specs.declared.cause.Cause.{Cause}
use Rattle.bpf_meaning.proofs.operands.move_pointer.Goals as goal

pub returns : goal.returns
returns c =
    let held : near_distance c.args.number ≡ Ok c.in_ok-distance.distance = sym c.near_distance.ensures ∙ c.in_ok-distance.was in
    let at : to_z w32 (of_z w32 (to_z w32 (of_z w32 c.from.result) +ℤ to_z w32 (of_z w32 c.from-2.result))) ≡ c.args.offset +ℤ
    c.in_ok-distance.distance = omega (arith, ints) in
    c.offset_or.ensures ∙ ap offset_or at
    ∙ sym (ap (λ (r : Result ℤ Cause). r >>= λ distance. offset_or (c.args.offset +ℤ distance)) held)
