use Rattle.geocode.proofs.NameIndexLemmas.{chain-end, chain-fewer, chain-next}
use Rattle.geocode.proofs.name_index.ChainCandidates.next.Goals as goal

pub returns-in_default-clause-next : goal.returns-in_default-clause-next
returns-in_default-clause-next g c = λ segments numbers chain.
    chain-end c.args.self.now.index.now.links.items c.args.self.now.number numbers chain.links segments _ c.in_default.ensures

pub returns-clause-next : goal.returns-clause-next
returns-clause-next g c = λ segments numbers chain.
    chain-next c.args.self.now.index.now.links.items c.args.self.now.number numbers chain.links segments chain.spans c.in-Some.ensures
    (λ rest links. record { links = links; spans = chain.spans })

pub returns-clause-fewer : goal.returns-clause-fewer
returns-clause-fewer g c = λ segments numbers chain.
    chain-fewer c.args.self.now.index.now.links.items c.args.self.now.number numbers chain.links c.in-Some.ensures
