use Rattle.std.proofs.Common.{ℕ, ◌≤◌, ◌-◌, refl, sym, arith}
use Rattle.std.proofs.lemmas.List.{length-append}
use Rattle.cql2.specs.Folding.{is_alike}
use Rattle.cql2_code.proofs.CutLemmas.{where_all, where_chosen, where_passed}
use Rattle.cql2_code.proofs.pieces.bytes_alike.Goals as goal
use Rattle.cql2_code.proofs.pieces.bytes_alike.Goals.{then-is_alike, else-is_alike}

pub loop-above-preserved : goal.loop-above-preserved
loop-above-preserved c =
    let good = λ (byte : ℕ). is_alike c.args.folding byte c.args.required in
    let above = c.loop-above.above in
    let bytes = c.loop-above.bytes.items in
    let before = c.loop-above.invariant in
    let few = before.0 in
    elim c.if-is_alike.branch [
      | then-is_alike w ↦ rw (w.bytes-is, w.push.ensures.items) (
        simp length-append (omega arith),
        where_chosen good bytes _ above (255 - above) c.loop-above-test.true refl (sym w.if-is_alike.ensures) before.1,
      )
      | else-is_alike w ↦ rw w.bytes-is
          (omega arith, where_passed good bytes _ above (255 - above) c.loop-above-test.true refl (sym w.if-is_alike.ensures) before.1)
    ]

pub returns : goal.returns
returns c =
    let end : 256 ≤ c.loop-above.above = omega arith in
    where_all (λ byte. is_alike c.args.folding byte c.args.required) c.loop-above.bytes.items _ c.loop-above.above end c.loop-above.invariant.1
