-- A turn that a server makes on its own.
use Rattle.std.specs.Prelude.{◌≡◌, ℕ, ◌-◌, Bool, true, false, Option, Some, None}
use Rattle.jobs.specs.Progress.{done_of}
use Rattle.jobs.specs.Table.{IsNextTurn, Step, Table}
use Rattle.jobs.specs.declared.event.Event.TheVariants.{Turn}
use Rattle.jobs.specs.declared.event.Reply.{Reply as JobReply}
use Rattle.jobs.specs.declared.event.Reply.TheVariants.{Turned, Rows}
use Rattle.metrics.specs.Counters.{with_judged}
use Rattle.wire.specs.State.{StateParts}
use Rattle.wire.specs.declared.job.JobTurn.{JobTurn}

-- the number of segments that a turn added to those done before it
abbrev pub judged_in : ℕ → JobReply → ℕ
judged_in before (Turned done total) = done - before
judged_in before reply = 0

-- the turn of the next job, or none if all jobs are finished
abbrev pub IsTurn : Table → Option JobTurn → Table → Type 0
IsTurn old (Some turn) new =
    (id : ℕ) × IsNextTurn old (Some id) × Step old (Turn id) turn.reply new × (turn.judged ≡ judged_in (done_of old id) turn.reply)
IsTurn old None new = IsNextTurn old None × (new ≡ old)

-- a turn of the job with this id, which is next; its segments are counted
pub record IsTurnOf (id : ℕ) (old : StateParts) (reply : JobReply) (new : StateParts) : Type 0 where
  pub next : IsNextTurn old.table (Some id)
  pub step : Step old.table (Turn id) reply new.table
  pub codes : new.codes ≡ old.codes
  pub counters : new.counters ≡ with_judged (judged_in (done_of old.table id) reply) old.counters

-- the turn of the next job, or none if all jobs are finished, and then nothing changes
abbrev pub MakesTurn : StateParts → Option JobReply → StateParts → Type 0
MakesTurn old (Some reply) new = (id : ℕ) × IsTurnOf id old reply new
MakesTurn old None new = IsNextTurn old.table None × (new ≡ old)

-- a reply that borrows rows
abbrev pub lends_rows : JobReply → Bool
lends_rows (Rows done total rows) = true
lends_rows reply = false
