use Rattle.std.proofs.Common.{arith}
use Rattle.std.proofs.lemmas.List.{take_all}
use Rattle.cql2_text.proofs.pattern.same_but_for.Goals as goal

pub returns-clause-letters : goal.returns-clause-letters
returns-clause-letters g c =
    rw (take_all c.loop-byte.byte-index c.args.bytes.now (omega arith)) at c.loop-byte.invariant.letters
