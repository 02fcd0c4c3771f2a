-- A request is at most one event of the table of jobs.
use Rattle.std.proofs.Common.{◌≡◌, ◌⊎◌, ℕ, IsTrue, true, false, inl, inr, List, [], ◌∷◌}
use Rattle.std.proofs.Common.{length, take, Option, Some, None, refl, sym, ap, ◌∙◌, subst}
use Rattle.std.specs.Prelude.{Bool, nat_le, if◌then◌else◌}
use Rattle.http_message.specs.Reply.{ReplyParts}
use Rattle.http_message.specs.declared.status.Status.TheVariants.{BadRequest, NotFound}
use Rattle.http_message.proofs.HeadLemmas.{HasHead-unique}
use Rattle.http_message.specs.Head.{Head}
use Rattle.http_message.specs.Target.{job_id}
use Rattle.http_message.specs.declared.route.Action.{Action}
use Rattle.http_message.specs.declared.route.Action.TheVariants as action
use Rattle.jobs.proofs.RunLemmas.{whole_run}
use Rattle.jobs.specs.Run.{Exchange, IsRun}
use Rattle.jobs.specs.Segments.{segments_of}
use Rattle.jobs.specs.Table.{JobParts, Step, Table, job_of, total_of}
use Rattle.jobs.specs.declared.event.Event.{Event}
use Rattle.jobs.specs.declared.event.Event.TheVariants as event
use Rattle.jobs.specs.declared.event.Reply.{Reply as JobReply}
use Rattle.jobs.specs.declared.event.Reply.TheVariants as table_reply
use Rattle.jobs.specs.declared.fault.JobFault.TheVariants.{NoJob}
use Rattle.metrics.specs.Counters.{CountersParts}
use Rattle.tl_segments.specs.County.{CountyParts}
use Rattle.wire.proofs.DecisionLemmas.{one_decision, with_body}
use Rattle.wire.specs.Answer.{Answers, AnswersAction, ChangesTable, IsJobReply, Replies, SubmitsTo}
use Rattle.wire.specs.Answer.{IsTableReply, job_reply, memory_reply, rows_reply, status_reply}
use Rattle.wire.specs.Decision.{AnnouncesBody, RoutedParts, DecisionParts, Refuses, Accepts}
use Rattle.wire.specs.Decision.{IsDecided, routed_by, decide, decide_body, takes_body}
use Rattle.wire.specs.Event.{Act, Acts, AreActs, AreExchanges, IsRefusedFilter, LacksProgram, RefusesFilter, RequestsEvent, IsEventOf}
use Rattle.wire.specs.Event.{Counted, IsEvent, IsExchange, IsNoExchange, IsOwnReply, Replied, Requests}
use Rattle.wire.specs.Event.{Rested, Turned, is_requested}
use Rattle.wire.specs.declared.decision.RequestRead.{RequestRead}
use Rattle.wire.specs.State.{StateParts, new_state}

pub same_state : (state other : StateParts) → state.table ≡ other.table → state.codes ≡ other.codes → state.counters ≡ other.counters
    → state ≡ other
same_state state other table codes counters =
    ap (λ (table : Table). record { table = table; codes = state.codes; counters = state.counters }) table
    ∙ ap (λ (codes : List (List ℕ)). record { table = other.table; codes = codes; counters = state.counters }) codes
    ∙ ap (λ (counters : CountersParts). record { table = other.table; codes = other.codes; counters = counters }) counters

-- The reply to such an event: there is no such event, unless a filter is refused, and nothing is changed; or the table received one and replied to it.
abbrev pub IsReplyTo : (Event → Type 0) → Type 0 → StateParts → ReplyParts → StateParts → Type 0
IsReplyTo is_such Excuse old reply new =
    (((event : Event) → is_such event → Excuse) × (new ≡ old)) ⊎ ChangesTable (IsTableReply is_such) old reply new

reply_as : {is_such is_other : Event → Type 0} {old new : Table} {reply : ReplyParts}
    → ((event : Event) → is_such event → is_other event) → IsTableReply is_such old reply new → IsTableReply is_other old reply new
reply_as implies is = record {
  event = is.event;
  is_event = implies is.event is.is_event;
  table_reply = is.table_reply;
  step = is.step;
  is_reply = is.is_reply;
}

module _ (old : StateParts) (reply : ReplyParts) (new : StateParts) where
  abbrev OfJob : (ℕ → Event) → Option ℕ → Event → Type 0
  OfJob make id event = (q : ℕ) × (id ≡ Some q) × (event ≡ make q)

  of_job : (make : ℕ → Event) (id : Option ℕ) → ChangesTable (IsJobReply make id) old reply new → IsReplyTo (OfJob make id) ⊥ old reply new
  of_job make None is = inl ((λ event made. none made.0 made.1), same_state new old is.0.1 is.1 is.2)
    where
      none : (q : ℕ) → None ≡ Some q → ⊥
      none q is = cc
  of_job make (Some id) is = inr (reply_as (λ event made. (id, refl, made)) is.0, is.1, is.2)

  of_filter : (request : RoutedParts) → ChangesTable (SubmitsTo request.query request.body) old reply new
      → IsReplyTo (IsEventOf action.SubmitFilter request) (LacksProgram action.SubmitFilter request reply) old reply new
  of_filter request (inl submitted, codes, counters) = inr (submitted, codes, counters)
  of_filter request (inr refused, codes, counters) = inl ((λ event is. refused.0), same_state new old refused.1 codes counters)

  of_action : (action : Action) (request : RoutedParts) → AnswersAction action old request reply new
      → IsReplyTo (IsEventOf action request) (LacksProgram action request reply) old reply new
  of_action action.Submit request answers = inr answers
  of_action action.SubmitFilter request answers = of_filter request answers
  of_action action.Fetch request answers = of_job event.Fetch (job_id request.path) answers
  of_action action.Drop request answers = of_job event.Drop (job_id request.path) answers
  of_action action request answers = inl ((λ event is. is), answers.1)

  pub of_decision : (decision : DecisionParts) → Answers old decision reply new
      → IsReplyTo (RequestsEvent decision) (RefusesFilter decision reply) old reply new
  of_decision (Accepts request) answers = of_action request.action request answers
  of_decision decision answers = inl ((λ event is. is), answers.1)

action_requested : (action : Action) (request : RoutedParts) (event : Event) → IsEventOf action request event → IsTrue (is_requested event)
action_requested action.Submit request (event.Submit program) is = refl
action_requested action.SubmitFilter request (event.Turn id) is = absurd is.2
action_requested action.SubmitFilter request event is = refl
action_requested action.Fetch request event is = subst (λ event. IsTrue (is_requested event)) (sym is.2) refl
action_requested action.Drop request event is = subst (λ event. IsTrue (is_requested event)) (sym is.2) refl
action_requested action request event is = absurd is

requested : (decision : DecisionParts) (event : Event) → RequestsEvent decision event → IsTrue (is_requested event)
requested (Accepts request) event is = action_requested request.action request event is
requested decision event is = absurd is

is_event : (decision : DecisionParts) (old new : StateParts) (reply : ReplyParts)
    → IsReplyTo (RequestsEvent decision) (RefusesFilter decision reply) old reply new → (new ≡ old) ⊎ IsEvent old reply new
is_event decision old new reply (inl unchanged) = inl unchanged.1
is_event decision old new reply (inr changed) = inr (reply_as (requested decision) changed.0, changed.1, changed.2)

pub one_event_lem : (input : List ℕ) (request_read : RequestRead) (old new : StateParts) (reply : ReplyParts) → Replies input request_read old reply new
    → (new ≡ old) ⊎ IsEvent old reply new
one_event_lem input request_read old new reply (inl decided) = is_event decided.0 old new reply (of_decision old reply new decided.0 decided.3)
one_event_lem input request_read old new reply (inr stopped) = inl stopped.4

-- the exchanges among the acts, which lead from one table to the other
abbrev pub LeadsTo : StateParts → List Act → StateParts → Type 0
LeadsTo old acts new = (exchanges : List Exchange) × AreExchanges acts exchanges × IsRun old.table exchanges new.table

table_of : {old now : StateParts} → now ≡ old → now.table ≡ old.table
table_of same = ap (λ state. state.table) same

module _ (old now new : StateParts) (acts : List Act) (leads : LeadsTo now acts new) where
  -- an act that is no exchange
  not_exchanged : (act : Act) → IsNoExchange act → now.table ≡ old.table → LeadsTo old (act ∷ acts) new
  not_exchanged act none same = (leads.0, inl (none, leads.1), subst (λ table. IsRun table leads.0 new.table) same leads.2)

  -- an act that is an exchange
  exchanged : (act : Act) (exchange : Exchange) → IsExchange act exchange → Step old.table exchange.event exchange.reply now.table
      → LeadsTo old (act ∷ acts) new
  exchanged act exchange is step =
      (exchange ∷ leads.0, inr (exchange, leads.0, refl, is, leads.1), (now.table, step, leads.2))

  decided : (input : List ℕ) (reply : ReplyParts) (decision : DecisionParts) → IsDecided input decision
      → IsReplyTo (RequestsEvent decision) (RefusesFilter decision reply) old reply now → LeadsTo old (Replied input reply ∷ acts) new
  decided input reply decision is (inl unchanged) = not_exchanged (Replied input reply) nothing (table_of unchanged.1)
    where
      nothing : (event : Event) → Requests input event → (reply ≡ memory_reply) ⊎ IsRefusedFilter input reply
      nothing event requests =
          let same = one_decision input requests.0 decision requests.1 is in
          inr (decision, is, unchanged.0 event (subst (λ decision. RequestsEvent decision event) same requests.2))
  decided input reply decision is (inr changed) =
      exchanged (Replied input reply) (record { event = changed.0.event; reply = changed.0.table_reply })
      ((decision, is, changed.0.is_event), changed.0.is_reply) changed.0.step

  pub acted : (act : Act) → Acts old act now → LeadsTo old (act ∷ acts) new
  acted (Replied input reply) (request_read, inl given) = decided input reply given.0 given.1 (of_decision old reply now given.0 given.3)
  acted (Replied input reply) (request_read, inr stopped) = not_exchanged (Replied input reply) (λ event requests. inl stopped.3) (table_of stopped.4)
  acted (Counted summary) same = not_exchanged (Counted summary) tt (table_of same)
  acted (Turned id reply) turn = exchanged (Turned id reply) (record { event = event.Turn id; reply = reply }) refl turn.step
  acted Rested (none, same) = not_exchanged Rested tt (table_of same)

pub acts_lead : (old : StateParts) (acts : List Act) (new : StateParts) → AreActs old acts new → LeadsTo old acts new
acts_lead old [] new same = ([], refl, ap (λ state. state.table) same)
acts_lead old (act ∷ acts) new are = acted old are.0 new acts (acts_lead are.0 acts new are.2) act are.1

-- A request for a job returns the job's own result.

-- a request for a job's rows is one event
fetch_of_action : (action : Action) (request : RoutedParts) (other : Event) (id : ℕ) → IsEventOf action request other
    → IsEventOf action request (event.Fetch id) → other ≡ event.Fetch id
fetch_of_action action.Fetch request other id is also = is.2 ∙ ap event.Fetch (same is.0 also.0 (sym is.1 ∙ also.1)) ∙ sym also.2
  where
    same : (p q : ℕ) → Some p ≡ Some q → p ≡ q
    same p q is = cc
fetch_of_action action.Drop request other id is also = absurd (none also.0 also.2)
  where
    none : (q : ℕ) → event.Fetch id ≡ event.Drop q → ⊥
    none q is = cc
fetch_of_action action.SubmitFilter request other id is also = absurd also.2
fetch_of_action action request other id is also = absurd also

fetch_decided : (decision : DecisionParts) (other : Event) (id : ℕ) → RequestsEvent decision other → RequestsEvent decision (event.Fetch id)
    → other ≡ event.Fetch id
fetch_decided (Accepts request) other id is also = fetch_of_action request.action request other id is also
fetch_decided decision other id is also = absurd is

-- an action with a body doesn't fetch a job
with_body_no_job : (action : Action) (request : RoutedParts) (id : ℕ) → takes_body action ≡ true → IsEventOf action request (event.Fetch id) → ⊥
with_body_no_job action.Fetch request id takes is = cc
with_body_no_job action.Drop request id takes is = cc
with_body_no_job action.SubmitFilter request id takes is = is.2
with_body_no_job action request id takes is = is

body_no_job : (head : Head) (action : Action) (body : List ℕ) (id : ℕ) (fits : Bool) → takes_body action ≡ true
    → RequestsEvent (if fits then Accepts (routed_by head action body) else Refuses BadRequest) (event.Fetch id) → ⊥
body_no_job head action body id true takes is = with_body_no_job action (routed_by head action body) id takes is
body_no_job head action body id false takes is = is

-- an input that announces a body fetches no job
announces_no_job : (input : List ℕ) (id : ℕ) → AnnouncesBody input → Requests input (event.Fetch id) → ⊥
announces_no_job input id announced (decision, inl none, requests) = none.0 announced.head announced.rest announced.has
announces_no_job input id announced (decision, inr (head, rest, has, is), requests) =
    let same = HasHead-unique input head announced.head rest announced.rest has announced.has in
    let decided = is ∙ ap (λ head. decide head rest) same.0
    ∙ with_body announced.head announced.action rest announced.requests announced.takes
    ∙ ap (λ length. decide_body announced.head announced.action length rest) announced.announces in
    body_no_job announced.head announced.action (take announced.count rest) id (nat_le announced.count (length rest)) announced.takes
    (subst (λ decision. RequestsEvent decision (event.Fetch id)) decided requests)

-- nor is a filter refused
fetch_of_no_filter : (decision : DecisionParts) (reply : ReplyParts) (id : ℕ) → RequestsEvent decision (event.Fetch id) → RefusesFilter decision reply → ⊥
fetch_of_no_filter (Accepts request) reply id fetches refused = by_action request.action fetches refused
  where
    by_action : (action : Action) → IsEventOf action request (event.Fetch id) → LacksProgram action request reply → ⊥
    by_action action.SubmitFilter fetches refused = fetches.2
    by_action action fetches refused = refused
fetch_of_no_filter decision reply id fetches refused = refused

-- the reply about a job, if there is one
abbrev pub reply_of_job : (JobParts → ReplyParts) → Option JobParts → ReplyParts
reply_of_job made None = status_reply NotFound
reply_of_job made (Some job) = made job

abbrev pub job_rows : Table → JobParts → ReplyParts
job_rows table job = rows_reply job.done (total_of table) job.rows

pub fetched : (old new : Table) (id : ℕ) (reply : JobReply) → Step old (event.Fetch id) reply new
    → (job_reply reply ≡ reply_of_job (job_rows old) (job_of old id)) × (new ≡ old)
fetched old new id (table_reply.Rows done total rows) (job, there, is_done, is_total, is_rows, same) =
    (rw (is_done, is_total, is_rows, there) refl, same)
fetched old new id (table_reply.Refused NoJob) step = (rw step.0 refl, step.1)
fetched old new id reply step = absurd step

module _ (codes : List (List ℕ)) (counties : List CountyParts) (start : Option ℕ) (acts : List Act) (state : StateParts)
    (are : AreActs (new_state codes counties start) acts state) where
  replied : (id : ℕ) (found : Option JobParts) → job_of state.table id ≡ found
      → (reply_of_job (job_rows state.table) found ≡ status_reply NotFound)
      ⊎ IsOwnReply counties acts id (reply_of_job (job_rows state.table) found)
  replied id None there = inl refl
  replied id (Some job) there =
      let leads = acts_lead (new_state codes counties start) acts state are in
      let so_far = whole_run counties leads.0 state.table leads.2 in
      inr (record {
        exchanges = leads.0;
        are = leads.1;
        job = job;
        own = so_far.own id job there;
        is_reply = ap (λ (counties : List CountyParts). rows_reply job.done (length (segments_of counties)) job.rows) so_far.over;
      })

  pub own_reply : (input : List ℕ) (request_read : RequestRead) (reply : ReplyParts) (new : StateParts) → Replies input request_read state reply new
      → (id : ℕ) → Requests input (event.Fetch id) → (reply ≡ status_reply NotFound) ⊎ IsOwnReply counties acts id reply
  own_reply input request_read reply new (inr stopped) id requests = absurd (announces_no_job input id stopped.0 requests)
  own_reply input request_read reply new (inl given) id requests =
      let fetches = subst (λ decision. RequestsEvent decision (event.Fetch id)) (one_decision input requests.0 given.0 requests.1 given.1)
      requests.2 in
      elim (of_decision state reply new given.0 given.3) [
        | inl unchanged ↦ absurd (fetch_of_no_filter given.0 reply id fetches (unchanged.0 (event.Fetch id) fetches))
        | inr changed ↦
            let made = changed.0 in
            let step = subst (λ event. Step state.table event made.table_reply new.table)
            (fetch_decided given.0 made.event id made.is_event fetches) made.step in
            subst (λ reply. (reply ≡ status_reply NotFound) ⊎ IsOwnReply counties acts id reply)
            (sym (made.is_reply ∙ (fetched state.table new.table id made.table_reply step).0)) (replied id (job_of state.table id) refl)
      ]
