-- The progress of the jobs of a table.
use Rattle.std.specs.Prelude.{ℕ, ◌+◌, ◌-◌, nat_lt, if◌then◌else◌, List, [], ◌∷◌, length, Option, Some, None}
use Rattle.jobs.specs.Table.{JobParts, Table, job_of, total_of}

-- the number of segments that a job has done, 0 if there is no job
abbrev pub done_in : Option JobParts → ℕ
done_in None = 0
done_in (Some job) = job.done

abbrev pub done_of : Table → ℕ → ℕ
done_of table id = done_in (job_of table id)

-- the number of jobs that have segments left
abbrev pub unfinished : ℕ → List (ℕ × JobParts) → ℕ
unfinished total [] = 0
unfinished total (entry ∷ entries) = (if nat_lt entry.1.done total then 1 else 0) + unfinished total entries

abbrev pub running : Table → ℕ
running table = unfinished (total_of table) table.jobs

-- the number of the others
abbrev pub finished : Table → ℕ
finished table = length table.jobs - running table
