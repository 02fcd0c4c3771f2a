-- The counts of a server's work.
use Rattle.std.specs.Prelude.{ℕ, ◌+◌, ◌-◌, ◌==◌, if◌then◌else◌, List, [], ◌∷◌, Option, Some, None}
use Rattle.http_message.specs.Reply.{ReplyParts}
use Rattle.http_message.specs.declared.reply.MediaType.{MediaType}
use Rattle.http_message.specs.declared.reply.MediaType.TheVariants.{Csv}
use Rattle.http_message.specs.declared.status.Status.{Status}
use Rattle.http_message.specs.declared.status.Status.TheVariants.{Ok}
use Rattle.http_message.specs.declared.route.Route.{Route}
use Rattle.http_message.specs.declared.route.Route.TheVariants.{Extract, Select, Job}
use Rattle.jobs.specs.Table.{total_of}
use Rattle.metrics.specs.Counters.{CountersParts, with_judged, with_reply, with_rows}
use Rattle.wire.specs.State.{StateParts}
use Rattle.wire.specs.declared.summary.Summary.{Summary}

-- the number of line feeds in a text
abbrev pub line_feeds : List ℕ → ℕ
line_feeds [] = 0
line_feeds (byte ∷ text) = (if byte == 10 then 1 else 0) + line_feeds text

-- the number of rows among the lines of a reply: the header of a table is no row, nor is the progress of a job
abbrev pub rows_among : Option Route → Status → MediaType → ℕ → ℕ
rows_among (Some Extract) Ok media lines = lines
rows_among (Some Select) Ok Csv lines = lines - 1
rows_among (Some Select) Ok media lines = lines
rows_among (Some Job) Ok media lines = lines - 1
rows_among route status media lines = 0

-- the number of rows in a reply to a request for this route
abbrev pub rows_of : Option Route → ReplyParts → ℕ
rows_of route reply = rows_among route reply.status reply.media (line_feeds reply.body)

-- the number of segments on which a request ran a program or a filter, of this total
abbrev pub judged_by : Option Route → Option Status → ℕ → ℕ
judged_by (Some Extract) (Some Ok) total = total
judged_by (Some Select) (Some Ok) total = total
judged_by route status total = 0

-- a request counts if it got a reply
abbrev pub with_request : Option Route → Option Status → CountersParts → CountersParts
with_request route None counters = counters
with_request route (Some status) counters = with_reply route status counters

-- the counters after a connection with this summary, over this number of segments
abbrev pub with_summary : Summary → ℕ → CountersParts → CountersParts
with_summary summary total counters =
    with_rows summary.rows (with_judged (judged_by summary.named.route summary.status total)
    (with_request summary.named.route summary.status counters))

-- a state with other counters
abbrev pub with_counters : CountersParts → StateParts → StateParts
with_counters counters state = record state { counters = counters }

-- the state after a connection with this summary was counted
abbrev pub counted : Summary → StateParts → StateParts
counted summary state = with_counters (with_summary summary (total_of state.table) state.counters) state
