-- Runs of a table of jobs, and the effect of a job's own submission and its own turns.
use Rattle.std.specs.Prelude.{◌≡◌, ℕ, ◌+◌, ◌*◌, List, [], ◌∷◌, length, take, min, Option, Some, None, ◌==◌, if◌then◌else◌}
use Rattle.std.specs.List.{filter_map}
use Rattle.bpf_meaning.specs.Extract.{IsExtract}
use Rattle.bpf_program.specs.Program.{IsSafeProgram}
use Rattle.tl_segments.specs.County.{CountyParts}
use Rattle.jobs.specs.Segments.{segments_of}
use Rattle.jobs.specs.Table.{JobParts, Step, Table}
use Rattle.jobs.specs.declared.event.Event.{Event}
use Rattle.jobs.specs.declared.event.Event.TheVariants.{Submit, Turn}
use Rattle.jobs.specs.declared.event.Reply.{Reply}
use Rattle.jobs.specs.declared.event.Reply.TheVariants.{Submitted, Turned}
use Rattle.jobs.specs.declared.turn.TheConstants.{SEGMENTS_PER_TURN}

-- an event, and the reply to it
pub record Exchange : Type 0 where
  pub event : Event
  pub reply : Reply

-- a list of exchanges leads from one table to another, each by a step
abbrev pub IsRun : Table → List Exchange → Table → Type 0
IsRun old [] new = new ≡ old
IsRun old (exchange ∷ exchanges) new = (now : Table) × Step old exchange.event exchange.reply now × IsRun now exchanges new

-- the id that an exchange assigned
abbrev pub assigned_id : Event → Reply → Option ℕ
assigned_id (Submit program) (Submitted id) = Some id
assigned_id event reply = None

-- the assigned ids, in order
abbrev pub assigned_ids : List Exchange → List ℕ
assigned_ids exchanges = filter_map (λ exchange. assigned_id exchange.event exchange.reply) exchanges

-- the program of a submission that was answered with this id
abbrev pub program_of : ℕ → Event → Reply → Option (List ℕ)
program_of id (Submit program) (Submitted assigned) = if assigned == id then Some program.now else None
program_of id event reply = None

-- the programs of the submissions that were answered with this id
abbrev pub programs_of : ℕ → List Exchange → List (List ℕ)
programs_of id exchanges = filter_map (λ exchange. program_of id exchange.event exchange.reply) exchanges

-- 1 for an answered turn of the job with this id, otherwise 0
abbrev pub turn_count : ℕ → Event → Reply → ℕ
turn_count id (Turn turned) (Turned done total) = if turned == id then 1 else 0
turn_count id event reply = 0

-- the number of answered turns of the job with this id
abbrev pub turns_of : ℕ → List Exchange → ℕ
turns_of id [] = 0
turns_of id (exchange ∷ exchanges) = turn_count id exchange.event exchange.reply + turns_of id exchanges

-- A job is the result of its own submission and its own turns. Its code is that of the only program whose submission was answered with its id. The
-- number of segments done follows from its turns, and is at most the total; its rows are the extract of its code over these segments.
pub record IsOwn (counties : List CountyParts) (exchanges : List Exchange) (id : ℕ) (job : JobParts) : Type 0 where
  pub program : List ℕ
  pub submitted : programs_of id exchanges ≡ program ∷ []
  pub accepted : IsSafeProgram program job.code
  pub done : job.done ≡ min (length (segments_of counties)) (SEGMENTS_PER_TURN * turns_of id exchanges)
  pub chosen : ℕ
  pub rows : IsExtract job.code (take job.done (segments_of counties)) job.rows chosen
