use Rattle.std.proofs.Common.{◌∙◌, sym}
use Rattle.addresses.proofs.RegularLemmas.{walk-next, whole-text}
use Rattle.addresses.proofs.regular.is_regular.Goals as goal
use Rattle.addresses.proofs.regular.is_regular.Goals.{in-Quoted, in_default-matches}

pub loop-byte-preserved : goal.loop-byte-preserved
loop-byte-preserved c = c.loop-byte.invariant
    ∙ walk-next c.in-Some.line.now c.loop-byte.byte-index c.loop-byte.part c.in-Some-after.next c.loop-byte-test.true
    (sym c.after.ensures ∙ c.in-Some-after.is)

pub returns : goal.returns
returns c = λ outside. elim c.match-matches.branch [
  | in-Quoted w ↦ cc (rw w.matches-is at outside)
  | in_default-matches w ↦
      whole-text c.in-Some.line.now c.args.text.now c.loop-byte.byte-index c.loop-byte.part c.in-Some.ensures c.loop-byte.invariant
      c.loop-byte-test.false w.in_default-matches.not-Quoted
]
