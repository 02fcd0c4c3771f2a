use Rattle.std.proofs.Common.{refl, arith}
use Rattle.geocode.proofs.CandidateLemmas.{all-end, all-next}
use Rattle.geocode.proofs.candidates.AllSegmentsCandidates.next.Goals as goal

pub returns-then-self-clause-next : goal.returns-then-self-clause-next
returns-then-self-clause-next c = λ segments numbers from.
    rw from.numbered (all-end segments c.args.self.now.next _ (omega (arith, from.count, c.if-self.true)))

pub returns-clause-next : goal.returns-clause-next
returns-clause-next c = λ segments numbers from.
    rw from.numbered (all-next segments c.args.self.now.next _ (omega (arith, from.count, c.if-self.false))
    (record { count = from.count; numbered = refl }))

pub returns-clause-fewer : goal.returns-clause-fewer
returns-clause-fewer c = λ segments numbers from. omega (arith, c.if-self.false)
