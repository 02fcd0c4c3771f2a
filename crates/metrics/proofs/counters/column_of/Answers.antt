use Rattle.metrics.proofs.CountLemmas.{column_by_tag, column_within}
use Rattle.metrics.proofs.counters.column_of.Goals as goal

pub returns : goal.returns
returns c =
    let value = column_by_tag c.args.status in
    record { value = value; within = rw value (column_within c.args.status) }
