use Rattle.metrics.proofs.CountLemmas.{first_count, other_counts, own_count}
use Rattle.metrics.proofs.laws.counts.Goals as goal

pub returns : goal.returns
returns c = record { first = first_count; one = own_count; others = other_counts }
