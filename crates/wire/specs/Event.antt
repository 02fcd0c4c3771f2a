-- The acts of a server on its state, and their effect on the table of jobs.
use Rattle.std.specs.Prelude.{◌≡◌, ◌⊎◌, ℕ, Bool, true, false, IsTrue, List, [], ◌∷◌, Some, None, length}
use Rattle.http_message.specs.Reply.{ReplyParts}
use Rattle.http_message.specs.Target.{job_id}
use Rattle.http_message.specs.declared.route.Action.{Action}
use Rattle.http_message.specs.declared.route.Action.TheVariants as action
use Rattle.jobs.specs.Run.{Exchange, IsOwn}
use Rattle.jobs.specs.Segments.{segments_of}
use Rattle.jobs.specs.Table.{IsNextTurn, JobParts}
use Rattle.jobs.specs.declared.event.Event.{Event}
use Rattle.jobs.specs.declared.event.Event.TheVariants.{Turn, Fetch, Drop}
use Rattle.jobs.specs.declared.event.Reply.{Reply as JobReply}
use Rattle.tl_segments.specs.County.{CountyParts}
use Rattle.wire.specs.Answer.{ChangesTable, IsFilterRefused, Replies, Submits, SubmitsFilter, IsTableReply, job_reply, memory_reply, rows_reply}
use Rattle.wire.specs.Decision.{RoutedParts, DecisionParts, IsDecided, Refuses, Disallows, Accepts}
use Rattle.wire.specs.Counting.{counted}
use Rattle.wire.specs.State.{StateParts}
use Rattle.wire.specs.Turn.{IsTurnOf}
use Rattle.wire.specs.declared.decision.RequestRead.{RequestRead}
use Rattle.wire.specs.declared.query.Parameters.TheVariants.{OfFilter}
use Rattle.wire.specs.declared.summary.Summary.{Summary}

-- an event that a request can be: any but a turn
abbrev pub is_requested : Event → Bool
is_requested (Turn id) = false
is_requested event = true

-- one event of the table of jobs, which a request can be, and the table's reply
abbrev pub IsEvent : StateParts → ReplyParts → StateParts → Type 0
IsEvent old reply new = ChangesTable (IsTableReply (λ event. IsTrue (is_requested event))) old reply new

-- the request to the table: run a program, or the program of a filter, as a job, return the progress of the job with an id, or remove it
abbrev pub IsEventOf : Action → RoutedParts → Event → Type 0
IsEventOf action.Submit request event = Submits request.body event
IsEventOf action.SubmitFilter request event = SubmitsFilter request.query request.body event
IsEventOf action.Fetch request event = (id : ℕ) × (job_id request.path ≡ Some id) × (event ≡ Fetch id)
IsEventOf action.Drop request event = (id : ℕ) × (job_id request.path ≡ Some id) × (event ≡ Drop id)
IsEventOf action request event = ⊥

abbrev pub RequestsEvent : DecisionParts → Event → Type 0
RequestsEvent (Accepts request) event = IsEventOf request.action request event
RequestsEvent (Refuses status) event = ⊥
RequestsEvent (Disallows route) event = ⊥

-- an input requests this event of the table
abbrev pub Requests : List ℕ → Event → Type 0
Requests input event = (decision : DecisionParts) × IsDecided input decision × RequestsEvent decision event

-- a filter has no program to submit
abbrev pub LacksProgram : Action → RoutedParts → ReplyParts → Type 0
LacksProgram action.SubmitFilter request reply = IsFilterRefused OfFilter request.query request.body reply
LacksProgram action request reply = ⊥

abbrev pub RefusesFilter : DecisionParts → ReplyParts → Type 0
RefusesFilter (Accepts request) reply = LacksProgram request.action request reply
RefusesFilter (Refuses status) reply = ⊥
RefusesFilter (Disallows route) reply = ⊥

-- the reply to an input refuses a filter whose program would be submitted
abbrev pub IsRefusedFilter : List ℕ → ReplyParts → Type 0
IsRefusedFilter input reply = (decision : DecisionParts) × IsDecided input decision × RefusesFilter decision reply

-- an act of a server: it replies to an input, counts a connection, makes a turn of the job with an id, or has no turn to make
pub data Act : Type 0 where
  Replied : List ℕ → ReplyParts → Act
  Counted : Summary → Act
  Turned : ℕ → JobReply → Act
  Rested : Act

abbrev pub Acts : StateParts → Act → StateParts → Type 0
Acts old (Replied input reply) new = (request_read : RequestRead) × Replies input request_read old reply new
Acts old (Counted summary) new = new ≡ counted summary old
Acts old (Turned id reply) new = IsTurnOf id old reply new
Acts old Rested new = IsNextTurn old.table None × (new ≡ old)

-- acts in order
abbrev pub AreActs : StateParts → List Act → StateParts → Type 0
AreActs old [] new = new ≡ old
AreActs old (act ∷ acts) new = (now : StateParts) × Acts old act now × AreActs now acts new

-- an act that is an exchange with the table
abbrev pub IsExchange : Act → Exchange → Type 0
IsExchange (Replied input reply) exchange = Requests input exchange.event × (reply ≡ job_reply exchange.reply)
IsExchange (Counted summary) exchange = ⊥
IsExchange (Turned id reply) exchange = exchange ≡ record { event = Turn id; reply = reply }
IsExchange Rested exchange = ⊥

-- an act that is no exchange: it requests nothing of the table, or an allocation fails or a filter is refused before the table sees the request
abbrev pub IsNoExchange : Act → Type 0
IsNoExchange (Replied input reply) = (event : Event) → Requests input event → (reply ≡ memory_reply) ⊎ IsRefusedFilter input reply
IsNoExchange (Counted summary) = Unit {0}
IsNoExchange (Turned id reply) = ⊥
IsNoExchange Rested = Unit {0}

-- the exchanges among the acts, in order
abbrev pub AreExchanges : List Act → List Exchange → Type 0
AreExchanges [] exchanges = exchanges ≡ []
AreExchanges (act ∷ acts) exchanges =
    (IsNoExchange act × AreExchanges acts exchanges)
    ⊎ ((exchange : Exchange) × (rest : List Exchange) × (exchanges ≡ exchange ∷ rest) × IsExchange act exchange × AreExchanges acts rest)

-- The progress and the rows of the job with an id: the result of its own submission and its own turns, among all acts of the server.
pub record IsOwnReply (counties : List CountyParts) (acts : List Act) (id : ℕ) (reply : ReplyParts) : Type 0 where
  pub exchanges : List Exchange
  pub are : AreExchanges acts exchanges
  pub job : JobParts
  pub own : IsOwn counties exchanges id job
  pub is_reply : reply ≡ rows_reply job.done (length (segments_of counties)) job.rows
