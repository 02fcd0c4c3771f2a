use Rattle.std.proofs.Common.{◌≤◌}
use Rattle.cql2.specs.declared.filter.Filter.{size-Filter}
use Rattle.cql2.proofs.filter.Filter.+drop.Given as goal

abbrev pub invariant-loop-self : goal.invariant-loop-self
invariant-loop-self g l = size-Filter _ l.self ≤ size-Filter _ l.initial.self
