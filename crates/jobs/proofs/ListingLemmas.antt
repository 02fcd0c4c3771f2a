-- The lines of a map's jobs.
use Rattle.std.proofs.Common.{ℕ, List, ◌≡◌, ◌++◌, ◌∷◌, append_assoc, sym}
use Rattle.std.specs.List.{flat_map}
use Rattle.jobs.specs.Inside.{jobs_of}
use Rattle.jobs.specs.Listing.{job_line}
use Rattle.jobs.specs.declared.job.Job.{Job}

abbrev pub lines : {A : Type 0} → ℕ → List (ℕ × Job A) → List ℕ
lines total entries = flat_map (λ entry. job_line entry.0 entry.1.done total) (jobs_of entries)

-- the text after a job's line is appended
pub line_step : {A : Type 0} (total : ℕ) (text : List ℕ) {new all : List ℕ} (entry : ℕ × Job A) (before entries : List (ℕ × Job A))
    → text ++ lines total before ≡ all → before ≡ entry ∷ entries → new ≡ text ++ job_line entry.0 entry.1.cursor.done total
    → new ++ lines total entries ≡ all
line_step total text entry before entries is same appended = rw (appended, sym is, same) (append_assoc text _ _)
