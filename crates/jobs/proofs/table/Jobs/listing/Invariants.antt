use Rattle.std.proofs.Common.{◌≡◌, ◌++◌}
use Rattle.jobs.proofs.ListingLemmas.{lines}
use Rattle.jobs.specs.Table.{total_of}
use Rattle.jobs.proofs.table.Jobs.listing.Given as goal

-- the text and the lines of the jobs left are those of all
abbrev pub invariant-loop-id : goal.invariant-loop-id
invariant-loop-id g l = l.text.items ++ lines (total_of l.self) l.id-iterator ≡ lines (total_of l.self) l.initial.id-iterator
