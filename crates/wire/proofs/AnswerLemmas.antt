-- The answers of the code are the replies of the definitions.
use Rattle.std.proofs.Common.{◌≡◌, ℕ, List, Option, Some, None, Bor, inl, inr, ap, refl, subst, sym}
use Rattle.http_message.specs.Reply.{ReplyParts}
use Rattle.http_message.specs.declared.status.Status.TheVariants.{NotFound}
use Rattle.jobs.specs.Table.{Step, Table}
use Rattle.jobs.specs.declared.event.Event.{Event}
use Rattle.jobs.specs.declared.event.Event.TheVariants.{Submit, Turn, Fetch, Drop}
use Rattle.jobs.specs.declared.event.Reply.{Reply as JobReply}
use Rattle.jobs.specs.declared.event.Reply.TheVariants.{Submitted, Turned, Rows, Dropped, Refused}
use Rattle.jobs.specs.declared.fault.JobFault.TheVariants.{Full, NoJob, Program, Memory}
use Rattle.counted_io.specs.ReaderWriter.{Writer}
use Rattle.wire.specs.Answer.{IsJobReply, IsTableReply, Submits, SubmitsTo, status_reply}
use Rattle.wire.specs.Reading.{Sends, WritesReply}
use Rattle.wire.specs.Turn.{IsTurn}
use Rattle.wire.specs.declared.job.JobTurn.{JobTurn}
use Rattle.wire.specs.declared.summary.Sent.{Sent}

pub writes_such : (is_reply : ReplyParts → Type 0) (reply : ReplyParts) (sent : Sent) (old new : Writer) → is_reply reply
    → Sends reply sent old new → WritesReply is_reply sent old new
writes_such is_reply reply sent old new is sends = record { reply = reply; is_such = is; sends = sends }

-- a reply that is such is also another one
pub writes_implied : (is_reply is_other : ReplyParts → Type 0) (sent : Sent) (old new : Writer)
    → ((reply : ReplyParts) → is_reply reply → is_other reply) → WritesReply is_reply sent old new → WritesReply is_other sent old new
writes_implied is_reply is_other sent old new implies wrote =
    record { reply = wrote.reply; is_such = implies wrote.reply wrote.is_such; sends = wrote.sends }

-- a program with these bytes is submitted
pub of_submission : (program : Bor (List ℕ)) (body : List ℕ) (old new : Table) (reply : ReplyParts) → program.now ≡ body
    → IsTableReply (λ made. made ≡ Submit program) old reply new → IsTableReply (Submits body) old reply new
of_submission program body old new reply same is = record {
  event = is.event;
  is_event = subst (λ made. Submits body made) (sym is.is_event) same;
  table_reply = is.table_reply;
  step = is.step;
  is_reply = is.is_reply;
}

-- an invalid id belongs to no job
pub of_no_job : (make : ℕ → Event) (id : Option ℕ) (table : Table) → None ≡ id → IsJobReply make id table (status_reply NotFound) table
of_no_job make id table none = subst (λ id. IsJobReply make id table (status_reply NotFound) table) none (refl, refl)

-- an event of the table doesn't change its counties
pub step_counties : (old : Table) (event : Event) (reply : JobReply) (new : Table) → Step old event reply new → new.counties ≡ old.counties
step_counties old (Submit program) (Submitted id) new (room, next, code, safe, is) = ap (λ (table : Table). table.counties) is
step_counties old (Submit program) (Refused Full) new step = ap (λ (table : Table). table.counties) step.1
step_counties old (Submit program) (Refused (Program fault)) new step = ap (λ (table : Table). table.counties) step.3
step_counties old (Submit program) (Refused Memory) new step = ap (λ (table : Table). table.counties) step.1
step_counties old (Turn id) (Turned done total) new (job, there, job', turned, is, done_is, total_is) =
    ap (λ (table : Table). table.counties) is
step_counties old (Turn id) (Refused NoJob) new step = ap (λ (table : Table). table.counties) step.1
step_counties old (Turn id) (Refused Memory) new step = ap (λ (table : Table). table.counties) step.3
step_counties old (Fetch id) (Rows done total rows) new step = ap (λ (table : Table). table.counties) step.5
step_counties old (Fetch id) (Refused NoJob) new step = ap (λ (table : Table). table.counties) step.1
step_counties old (Drop id) Dropped new (there, is) = ap (λ (table : Table). table.counties) is
step_counties old (Drop id) (Refused NoJob) new step = ap (λ (table : Table). table.counties) step.1
-- there are no other replies
step_counties old event reply new none = absurd none

-- nor does the submission of a filter
pub filter_counties : (query filter : List ℕ) (old : Table) (reply : ReplyParts) (new : Table) → SubmitsTo query filter old reply new
    → new.counties ≡ old.counties
filter_counties query filter old reply new (inl submitted) = step_counties old submitted.event submitted.table_reply new submitted.step
filter_counties query filter old reply new (inr refused) = ap (λ (table : Table). table.counties) refused.1

-- nor does a turn
pub turn_counties : (old : Table) (turn : Option JobTurn) (new : Table) → IsTurn old turn new → new.counties ≡ old.counties
turn_counties old None new turn = ap (λ (table : Table). table.counties) turn.1
turn_counties old (Some made) new turn = step_counties old (Turn turn.0) made.reply new turn.2

-- nor does an event for a job
pub job_counties : (make : ℕ → Event) (id : Option ℕ) (old : Table) (reply : ReplyParts) (new : Table) → IsJobReply make id old reply new
    → new.counties ≡ old.counties
job_counties make None old reply new same = ap (λ (table : Table). table.counties) same.1
job_counties make (Some id) old reply new is = step_counties old is.event is.table_reply new is.step
