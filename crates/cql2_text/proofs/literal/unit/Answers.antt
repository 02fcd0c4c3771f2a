use Rattle.cql2_text.proofs.CoordinateLemmas.{power_small}
use Rattle.cql2_text.proofs.literal.unit.Goals as goal

pub returns-clause-small : goal.returns-clause-small
returns-clause-small c = rw c.pow.ensures (power_small c.args.decimals c.requires)
