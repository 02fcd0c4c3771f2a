use Rattle.jobs.specs.Table.{total_of}
use Rattle.jobs.proofs.NextLemmas.{IsNextSoFar}
use Rattle.jobs.proofs.table.Jobs.next_turn.Given as goal

abbrev pub invariant-loop-id : goal.invariant-loop-id
invariant-loop-id g l = IsNextSoFar (total_of l.self) l.initial.id-iterator l.id-iterator l.next l.least
