use Rattle.jobs.proofs.ProgressLemmas.{Remain}
use Rattle.jobs.specs.Inside.{jobs_of}
use Rattle.jobs.specs.Progress.{unfinished}
use Rattle.jobs.specs.Table.{total_of}
use Rattle.jobs.proofs.table.Jobs.progress.Given as goal

-- the number so far, and that of the jobs left, are that of all
abbrev pub invariant-loop-id : goal.invariant-loop-id
invariant-loop-id g l =
    Remain (total_of l.self) l._id-iterator l.running (unfinished (total_of l.self) (jobs_of l.initial._id-iterator))
