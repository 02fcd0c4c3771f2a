-- The table of jobs and its steps, one case for each event and its reply.
use Rattle.std.specs.Prelude.{◌≡◌, ◌≢◌, ◌⊎◌, ℕ, ◌+◌, ◌-◌, ◌^◌, ◌<◌, ◌≤◌, nat_eq, List, [], ◌∷◌, ◌++◌, length, All, Option, Some, None}
use Rattle.std.specs.Map.{lookup, remove_entry, set_value}
use Rattle.bpf_insn.specs.declared.instruction.Insn.{Insn}
use Rattle.bpf_program.specs.Program.{IsSafeProgram, IsProgramFault}
use Rattle.bpf_program.specs.declared.program.ProgramFault.TheVariants as program_fault
use Rattle.tl_segments.specs.County.{CountyParts}
use Rattle.jobs.specs.Segments.{Advances, NeedsRow, segments_of}
use Rattle.jobs.specs.declared.event.Event.{Event}
use Rattle.jobs.specs.declared.event.Event.TheVariants.{Submit, Turn, Fetch, Drop}
use Rattle.jobs.specs.declared.event.Reply.{Reply}
use Rattle.jobs.specs.declared.event.Reply.TheVariants.{Submitted, Turned, Rows, Dropped, Refused}
use Rattle.jobs.specs.declared.fault.JobFault.TheVariants.{Full, NoJob, Program, Memory}
use Rattle.jobs.specs.declared.table.TheConstants.{MAX_JOBS}

-- an open job: its code, the number of segments done, and their rows
pub record JobParts : Type 0 where
  pub code : List Insn
  pub done : ℕ
  pub rows : List ℕ

-- a table: the counties that its jobs process, the open jobs by id, in the order in which they were opened, and the last id assigned, 0 before the
-- first
pub record Table : Type 0 where
  pub counties : List CountyParts
  pub jobs : List (ℕ × JobParts)
  pub last_id : ℕ

-- a table over these counties, with no jobs
abbrev pub empty_table : List CountyParts → Table
empty_table counties = record { counties = counties; jobs = []; last_id = 0 }

-- a job before its first turn
abbrev pub new_job : List Insn → JobParts
new_job code = record { code = code; done = 0; rows = [] }

-- the number of segments that each job processes
abbrev pub total_of : Table → ℕ
total_of table = length (segments_of table.counties)

-- the open job with this id
abbrev pub job_of : Table → ℕ → Option JobParts
job_of table id = lookup (nat_eq id) table.jobs

-- the table with one more job, whose id is now the last one assigned
abbrev pub with_job : Table → ℕ → JobParts → Table
with_job table id job = record table { jobs = table.jobs ++ (id, job) ∷ []; last_id = id }

-- the table with the job of this id replaced
abbrev pub with_changed_job : Table → ℕ → JobParts → Table
with_changed_job table id job = record table { jobs = set_value (nat_eq id) table.jobs job }

-- the table without the job with this id
abbrev pub without_job : Table → ℕ → Table
without_job table id = record table { jobs = remove_entry (nat_eq id) table.jobs }

-- the limit of open jobs is reached, or the greatest id was assigned
abbrev pub IsFull : Table → Type 0
IsFull table = (MAX_JOBS ≤ length table.jobs) ⊎ (table.last_id ≡ 2 ^ 64 - 1)

-- the job advanced by a turn: with its own code, over the segments after those that it had done
pub record IsTurned (counties : List CountyParts) (old new : JobParts) : Type 0 where
  pub code : new.code ≡ old.code
  pub advances : Advances old.code (segments_of counties) old.done old.rows new.done new.rows

-- the effect of an event and its reply on the table
abbrev pub Step : Table → Event → Reply → Table → Type 0
-- an accepted program becomes a job with the next id
Step old (Submit program) (Submitted id) new =
    (IsFull old → ⊥) × (id ≡ old.last_id + 1) × (code : List Insn) × IsSafeProgram program.now code
    × (new ≡ with_job old id (new_job code))
-- a full table is reported before the program is checked
Step old (Submit program) (Refused Full) new = IsFull old × (new ≡ old)
Step old (Submit program) (Refused (Program fault)) new =
    (IsFull old → ⊥) × IsProgramFault program.now fault × (fault ≢ program_fault.Memory) × (new ≡ old)
Step old (Submit program) (Refused Memory) new = (IsFull old → ⊥) × (new ≡ old)
-- a turn advances its own job; a finished job has nothing left to advance
Step old (Turn id) (Turned done total) new =
    (job : JobParts) × (job_of old id ≡ Some job) × (job' : JobParts) × IsTurned old.counties job job' × (new ≡ with_changed_job old id job')
    × (done ≡ job'.done) × (total ≡ total_of old)
Step old (Turn id) (Refused NoJob) new = (job_of old id ≡ None) × (new ≡ old)
Step old (Turn id) (Refused Memory) new =
    (job : JobParts) × (job_of old id ≡ Some job) × NeedsRow job.code (segments_of old.counties) job.done × (new ≡ old)
Step old (Fetch id) (Rows done total rows) new =
    (job : JobParts) × (job_of old id ≡ Some job) × (done ≡ job.done) × (total ≡ total_of old) × (rows.now ≡ job.rows) × (new ≡ old)
Step old (Fetch id) (Refused NoJob) new = (job_of old id ≡ None) × (new ≡ old)
Step old (Drop id) Dropped new = ((job : JobParts) × (job_of old id ≡ Some job)) × (new ≡ without_job old id)
Step old (Drop id) (Refused NoJob) new = (job_of old id ≡ None) × (new ≡ old)
-- there are no other replies
Step old event reply new = ⊥

-- a job comes before another if it has fewer segments done, or the same number and an id that is no greater
abbrev pub IsBefore : ℕ × JobParts → ℕ × JobParts → Type 0
IsBefore job other = (job.1.done < other.1.done) ⊎ ((job.1.done ≡ other.1.done) × (job.0 ≤ other.0))

-- the open job with this id is unfinished, and comes before every other unfinished job
pub record IsNext (table : Table) (id : ℕ) (job : JobParts) : Type 0 where
  pub there : job_of table id ≡ Some job
  pub unfinished : job.done < total_of table
  pub first : All (λ other. other.1.done < total_of table → IsBefore (id, job) other) table.jobs

-- the job whose turn is next, or none if all jobs are finished
abbrev pub IsNextTurn : Table → Option ℕ → Type 0
IsNextTurn table (Some id) = (job : JobParts) × IsNext table id job
IsNextTurn table None = All (λ entry. total_of table ≤ entry.1.done) table.jobs
