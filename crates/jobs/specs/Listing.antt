-- The list of open jobs, as text.
use Rattle.std.specs.Prelude.{ℕ, List, [], ◌∷◌, ◌++◌, codes, decimal}
use Rattle.std.specs.List.{flat_map}
use Rattle.jobs.specs.Table.{Table, total_of}

-- the id of a job, the number of segments done, and their total
abbrev pub job_line : ℕ → ℕ → ℕ → List ℕ
job_line id done total = decimal id ++ codes " " ++ decimal done ++ codes " " ++ decimal total ++ 10 ∷ []

-- a line for each open job, in the order in which they were opened
abbrev pub listing : Table → List ℕ
listing table = flat_map (λ entry. job_line entry.0 entry.1.done (total_of table)) table.jobs
