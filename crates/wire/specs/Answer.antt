-- The reply to a decision, and the state after it.
use Rattle.std.specs.Prelude.{◌≡◌, ◌<◌, ◌⊎◌, ℕ, List, [], ◌∷◌, ◌++◌, codes, decimal, Option, Some, None, Result, Ok, Err, IsUtf8}
use Rattle.addresses.specs.AddressFault as address_fault
use Rattle.addresses.specs.declared.fault.AddressFault.{AddressFault}
use Rattle.address_batch.specs.Output.{IsAddressesFault, IsOutputOf}
use Rattle.bpf_explain.specs.Explanation.{Explains}
use Rattle.bpf_insn.specs.Code.{IsFirstFault}
use Rattle.bpf_insn.specs.CodeFault as code_fault
use Rattle.bpf_insn.specs.declared.fault.CodeFault.{CodeFault}
use Rattle.bpf_insn.specs.declared.instruction.Insn.{Insn}
use Rattle.bpf_meaning.specs.Extract.{IsExtract}
use Rattle.bpf_text.specs.Conversion.{IsAssembled, IsDisassembled}
use Rattle.bpf_text.specs.SourceFault.{IsSourceFault}
use Rattle.bpf_assembler.specs.TextFault as text_fault
use Rattle.bpf_text.specs.declared.fault.SourceFault.{SourceFault}
use Rattle.bpf_text.specs.declared.fault.SourceFault.TheVariants.{NotUtf8, Text}
use Rattle.bpf_program.specs.Program.{IsProgramFault, IsSafeProgram}
use Rattle.bpf_program.specs.ProgramFault as program_fault
use Rattle.bpf_program.specs.declared.program.ProgramFault.{ProgramFault}
use Rattle.filters.specs.Failure.{failure_text}
use Rattle.filters.specs.Filter.{IsCodeOfText, IsFilterFailure, IsProgramOf}
use Rattle.filters.specs.declared.failure.FilterFailure.{FilterFailure}
use Rattle.filters.specs.declared.failure.FilterFailure.TheVariants as filter_failure
use Rattle.filters.specs.declared.filter.FilterOptions.{FilterOptions}
use Rattle.geocode.specs.HitLine.{hit_lines}
use Rattle.geocode.specs.Query.{QueryParts, hits_of}
use Rattle.http_message.specs.Reply.{ReplyParts}
use Rattle.http_message.specs.Status.{text}
use Rattle.http_message.specs.declared.reply.MediaType.{MediaType}
use Rattle.http_message.specs.declared.reply.MediaType.TheVariants.{Plain, Octets, Csv}
use Rattle.http_message.specs.declared.reply.MediaType.TheVariants as media_type
use Rattle.http_message.specs.declared.status.Status.{Status}
use Rattle.http_message.specs.declared.status.Status.TheVariants as status
use Rattle.http_message.specs.Routes.{allow, index}
use Rattle.http_message.specs.Target.{job_id}
use Rattle.http_message.specs.declared.route.Action.{Action}
use Rattle.http_message.specs.declared.route.Action.TheVariants as action
use Rattle.http_message.specs.declared.route.Route.{Route}
use Rattle.jobs.specs.JobFault as job_fault
use Rattle.jobs.specs.Listing.{listing}
use Rattle.jobs.specs.Progress.{finished, running}
use Rattle.jobs.specs.Segments.{segments_of}
use Rattle.jobs.specs.Table.{Step, Table}
use Rattle.jobs.specs.declared.event.Event.{Event}
use Rattle.jobs.specs.declared.event.Event.TheVariants as event
use Rattle.jobs.specs.declared.event.Reply.{Reply as JobReply}
use Rattle.jobs.specs.declared.event.Reply.TheVariants.{Submitted, Turned, Rows, Dropped, Refused}
use Rattle.jobs.specs.declared.fault.JobFault.{JobFault}
use Rattle.jobs.specs.declared.fault.JobFault.TheVariants.{Full, NoJob, Program, Memory}
use Rattle.layers.specs.Counties.{IsLayerOf}
use Rattle.layers.specs.Layer.{LayerParts}
use Rattle.metrics.specs.Text.{text as counts_text}
use Rattle.layers.specs.Layer as layers
use Rattle.refusals.specs.Refusal.{RefusalParts, line, memory}
use Rattle.refusals.specs.declared.refusal.Class.{Class}
use Rattle.refusals.specs.declared.refusal.Class.TheVariants as class
use Rattle.tl_segments.specs.County.{CountyParts}
use Rattle.wire.specs.Decision.{AnnouncesBody, RoutedParts, DecisionParts, IsDecided, Refuses, Disallows, Accepts, request_read_of}
use Rattle.wire.specs.ParameterFault as parameter_fault
use Rattle.wire.specs.ParameterFault.{NamesNearest, ParameterFaultParts}
use Rattle.wire.specs.Query.{AreOptionsOf, query_fault, requested_layer, requested_place}
use Rattle.wire.specs.State.{StateParts, counties_of}
use Rattle.wire.specs.declared.decision.RequestRead.{RequestRead}
use Rattle.wire.specs.declared.decision.RequestRead.TheVariants.{Partial}
use Rattle.wire.specs.declared.parameter_fault.ParameterFault.{ParameterFault}
use Rattle.wire.specs.declared.query.Parameters.{Parameters}
use Rattle.wire.specs.declared.query.Parameters.TheVariants.{OfFilter, OfSelect}

abbrev pub plain : Status → List ℕ → ReplyParts
plain status body = record { status = status; media = Plain; allow = None; body = body }

-- a 200 with a body of this media type
abbrev pub body_reply : MediaType → List ℕ → ReplyParts
body_reply media body = record { status = status.Ok; media = media; allow = None; body = body }

-- a 200 with a body of bytes
abbrev pub octets : List ℕ → ReplyParts
octets body = body_reply Octets body

-- a status with its own text
abbrev pub status_reply : Status → ReplyParts
status_reply status = plain status (text status)

-- a 405 lists the methods of the route
abbrev pub disallowed : Route → ReplyParts
disallowed route = record { status = status.MethodNotAllowed; media = Plain; allow = Some (allow route); body = text status.MethodNotAllowed }

-- the status of a refusal, by its class
abbrev pub class_status : Class → Status
class_status class.Refused = status.UnprocessableEntity
class_status class.Io = status.ServiceUnavailable
class_status class.Memory = status.ServiceUnavailable

abbrev pub line_reply : Status → List ℕ → ReplyParts
line_reply status line = plain status (line ++ 10 ∷ [])

abbrev pub refusal_reply : RefusalParts → ReplyParts
refusal_reply refusal = line_reply (class_status refusal.class) (line refusal)

abbrev pub memory_reply : ReplyParts
memory_reply = refusal_reply memory

-- a program is accepted, or refused with its fault
abbrev pub IsVerified : List ℕ → ReplyParts → Type 0
IsVerified program reply =
    ((code : List Insn) × IsSafeProgram program code × (reply ≡ plain status.Ok (codes "accepted\n")))
    ⊎ ((fault : ProgramFault) × IsProgramFault program fault × (reply ≡ refusal_reply (program_fault.refusal fault)))

-- why a source has no words
abbrev pub source_reply : SourceFault → ReplyParts
source_reply NotUtf8 = status_reply status.BadRequest
source_reply (Text fault) = refusal_reply (text_fault.refusal fault)

abbrev pub AssemblesTo : List ℕ → ReplyParts → Type 0
AssemblesTo source reply =
    ((words : List ℕ) × IsAssembled source words × (reply ≡ octets words))
    ⊎ ((fault : SourceFault) × IsSourceFault source fault × (reply ≡ source_reply fault))

-- the text of a program, or its first fault
abbrev pub DisassemblesTo : List ℕ → ReplyParts → Type 0
DisassemblesTo program reply =
    ((source : List ℕ) × IsDisassembled program source × (reply ≡ plain status.Ok source))
    ⊎ ((fault : CodeFault) × IsFirstFault program fault × (reply ≡ refusal_reply (code_fault.refusal fault)))

-- the rows that a program selects over all counties, or its fault
abbrev pub ExtractsTo : List CountyParts → List ℕ → ReplyParts → Type 0
ExtractsTo counties program reply =
    ((code : List Insn) × IsSafeProgram program code × (rows : List ℕ) × (chosen : ℕ) × IsExtract code (segments_of counties) rows chosen
    × (reply ≡ octets rows))
    ⊎ ((fault : ProgramFault) × IsProgramFault program fault × (reply ≡ refusal_reply (program_fault.refusal fault)))

-- the text that explains a verdict; the refusal's line follows, if there is one
abbrev pub explained_reply : List ℕ → Result (Unit {0}) ProgramFault → ReplyParts
explained_reply text (Ok accepted) = plain status.Ok text
explained_reply text (Err fault) = plain status.UnprocessableEntity (text ++ line (program_fault.refusal fault) ++ 10 ∷ [])

-- the explanation of the verdict on a program, without source lines
abbrev pub IsExplanation : List ℕ → ReplyParts → Type 0
IsExplanation program reply =
    (text : List ℕ) × (verdict : Result (Unit {0}) ProgramFault) × Explains program [] text verdict × (reply ≡ explained_reply text verdict)

abbrev pub ExplainsTo : List ℕ → ReplyParts → Type 0
ExplainsTo program reply = IsExplanation program reply ⊎ (reply ≡ memory_reply)

-- ---- filters

-- the lines that report why a filter has no program
abbrev pub failure_reply : FilterFailure → ReplyParts
failure_reply filter_failure.Memory = memory_reply
failure_reply failure = plain status.UnprocessableEntity (failure_text failure)

-- the line about a fault of the query's parameters
abbrev pub parameter_reply : ParameterFault → ReplyParts
parameter_reply fault = plain status.BadRequest (parameter_fault.line fault)

-- the reply to a query with this first fault
abbrev pub ReportsParameter : Option ParameterFaultParts → ReplyParts → Type 0
ReportsParameter fault reply =
    (reported : ParameterFault) × (fault ≡ Some (parameter_fault.parts_of reported)) × NamesNearest reported × (reply ≡ parameter_reply reported)

-- the reply for a text that isn't UTF-8, or from which no program can be made
abbrev pub IsTextRefused : FilterOptions → List ℕ → ReplyParts → Type 0
IsTextRefused options filter reply =
    ((IsUtf8 filter → ⊥) × (reply ≡ status_reply status.BadRequest))
    ⊎ (IsUtf8 filter × (failure : FilterFailure) × IsFilterFailure filter options failure × (reply ≡ failure_reply failure))

-- the reply for a filter that has no program; a parameter of the query is refused before the filter
pub data IsFilterRefused (parameters : Parameters) (query filter : List ℕ) (reply : ReplyParts) : Type 0 where
  invalid : ReportsParameter (query_fault parameters query) reply → IsFilterRefused parameters query filter reply
  refused : query_fault parameters query ≡ None → (options : FilterOptions) → AreOptionsOf query options → IsTextRefused options filter reply
      → IsFilterRefused parameters query filter reply
  out_of_memory : reply ≡ memory_reply → IsFilterRefused parameters query filter reply

abbrev pub media_of : LayerParts → MediaType
media_of layers.Rows = Octets
media_of (layers.Table layout) = Csv
media_of (layers.Features layout) = media_type.Features

-- the text is the layer of the segments for which the filter is true in the counties
pub record IsSelected (counties : List CountyParts) (layer : LayerParts) (options : FilterOptions) (filter text : List ℕ) : Type 0 where
  pub code : List Insn
  pub is_code : IsCodeOfText filter options code
  pub is_layer : IsLayerOf layer code counties text

-- the requested layer of the segments for which the filter is true, with the requested scores
pub record IsSelection (counties : List CountyParts) (query filter : List ℕ) (reply : ReplyParts) : Type 0 where
  pub valid : query_fault OfSelect query ≡ None
  pub options : FilterOptions
  pub are_options : AreOptionsOf query options
  pub layer : LayerParts
  pub is_requested : requested_layer query ≡ Ok layer
  pub text : List ℕ
  pub is_selected : IsSelected counties layer options filter text
  pub is_reply : reply ≡ body_reply (media_of layer) text

abbrev pub SelectsTo : List CountyParts → List ℕ → List ℕ → ReplyParts → Type 0
SelectsTo counties query filter reply = IsSelection counties query filter reply ⊎ IsFilterRefused OfSelect query filter reply

-- the program of a filter, with the requested scores
pub record IsFilterProgram (query filter program : List ℕ) : Type 0 where
  pub valid : query_fault OfFilter query ≡ None
  pub options : FilterOptions
  pub are_options : AreOptionsOf query options
  pub is_program : IsProgramOf filter options program

abbrev pub CompilesTo : List ℕ → List ℕ → ReplyParts → Type 0
CompilesTo query filter reply =
    ((program : List ℕ) × IsFilterProgram query filter program × (reply ≡ octets program)) ⊎ IsFilterRefused OfFilter query filter reply

-- ---- places

-- the lines of the hits
abbrev pub place_reply : List CountyParts → Option QueryParts → ReplyParts
place_reply counties None = status_reply status.BadRequest
place_reply counties (Some place) = plain status.Ok (hit_lines (hits_of place counties))

abbrev pub GeocodesTo : List CountyParts → List ℕ → ReplyParts → Type 0
GeocodesTo counties query reply = (reply ≡ place_reply counties (requested_place query)) ⊎ (reply ≡ memory_reply)

-- the lines of a file's addresses in counties with these codes, or the file's fault
abbrev pub GeocodesAllTo : List (List ℕ) → List CountyParts → List ℕ → ReplyParts → Type 0
GeocodesAllTo codes counties file reply =
    ((text : List ℕ) × IsOutputOf file codes counties text × (reply ≡ body_reply Csv text))
    ⊎ ((fault : AddressFault) × IsAddressesFault file fault × (reply ≡ refusal_reply (address_fault.refusal fault)))

-- ---- jobs

abbrev pub job_fault_reply : JobFault → ReplyParts
job_fault_reply NoJob = status_reply status.NotFound
job_fault_reply Full = line_reply status.ServiceUnavailable (job_fault.line Full)
job_fault_reply (Program fault) = refusal_reply (program_fault.refusal fault)
job_fault_reply Memory = memory_reply

-- the number of segments done and their total, followed by the rows
abbrev pub rows_reply : ℕ → ℕ → List ℕ → ReplyParts
rows_reply done total rows = octets ((decimal done ++ codes " " ++ decimal total ++ 10 ∷ []) ++ rows)

-- a reply of the table, as an HTTP reply; no request makes a turn
abbrev pub job_reply : JobReply → ReplyParts
job_reply (Submitted id) = line_reply status.Ok (decimal id)
job_reply (Turned done total) = rows_reply done total []
job_reply (Rows done total rows) = rows_reply done total rows.now
job_reply Dropped = plain status.Ok (codes "dropped\n")
job_reply (Refused fault) = job_fault_reply fault

-- the reply of the table of jobs to one such event
pub record IsTableReply (is_such : Event → Type 0) (old : Table) (reply : ReplyParts) (new : Table) : Type 0 where
  pub event : Event
  pub is_event : is_such event
  pub table_reply : JobReply
  pub step : Step old event table_reply new
  pub is_reply : reply ≡ job_reply table_reply

-- a program is submitted
abbrev pub Submits : List ℕ → Event → Type 0
Submits program (event.Submit submitted) = submitted.now ≡ program
Submits program other = ⊥

-- the reply to an event for the job with an id; an invalid id belongs to no job
abbrev pub IsJobReply : (ℕ → Event) → Option ℕ → Table → ReplyParts → Table → Type 0
IsJobReply make None old reply new = (reply ≡ status_reply status.NotFound) × (new ≡ old)
IsJobReply make (Some id) old reply new = IsTableReply (λ event. event ≡ make id) old reply new

-- the program of a filter is submitted
abbrev pub SubmitsFilter : List ℕ → List ℕ → Event → Type 0
SubmitsFilter query filter event = (program : List ℕ) × IsFilterProgram query filter program × Submits program event

-- the reply to the submission of a filter's program, or for a filter that has none
abbrev pub SubmitsTo : List ℕ → List ℕ → Table → ReplyParts → Table → Type 0
SubmitsTo query filter old reply new =
    IsTableReply (SubmitsFilter query filter) old reply new ⊎ (IsFilterRefused OfFilter query filter reply × (new ≡ old))

-- a request about jobs, which changes at most their table
abbrev pub ChangesTable : (Table → ReplyParts → Table → Type 0) → StateParts → ReplyParts → StateParts → Type 0
ChangesTable Is old reply new = Is old.table reply new.table × (new.codes ≡ old.codes) × (new.counters ≡ old.counters)

-- the counts, and the numbers of jobs, as text
abbrev pub counts_reply : StateParts → ReplyParts
counts_reply state = body_reply media_type.Metrics (counts_text state.counters (running state.table) (finished state.table))

-- ---- all actions

-- The reply to each action, and the state after it. A request about jobs is one event of their table, and nothing else changes the state.
abbrev pub AnswersAction : Action → StateParts → RoutedParts → ReplyParts → StateParts → Type 0
AnswersAction action.Index old request reply new = (reply ≡ plain status.Ok index) × (new ≡ old)
AnswersAction action.Health old request reply new = (reply ≡ plain status.Ok (codes "ok\n")) × (new ≡ old)
AnswersAction action.Verify old request reply new = IsVerified request.body reply × (new ≡ old)
AnswersAction action.Assemble old request reply new = AssemblesTo request.body reply × (new ≡ old)
AnswersAction action.Disassemble old request reply new = DisassemblesTo request.body reply × (new ≡ old)
AnswersAction action.Explain old request reply new = ExplainsTo request.body reply × (new ≡ old)
AnswersAction action.Extract old request reply new = ExtractsTo (counties_of old) request.body reply × (new ≡ old)
AnswersAction action.Select old request reply new = SelectsTo (counties_of old) request.query request.body reply × (new ≡ old)
AnswersAction action.Compile old request reply new = CompilesTo request.query request.body reply × (new ≡ old)
AnswersAction action.Geocode old request reply new = GeocodesTo (counties_of old) request.query reply × (new ≡ old)
AnswersAction action.GeocodeBatch old request reply new = GeocodesAllTo old.codes (counties_of old) request.body reply × (new ≡ old)
AnswersAction action.Submit old request reply new = ChangesTable (IsTableReply (Submits request.body)) old reply new
AnswersAction action.SubmitFilter old request reply new = ChangesTable (SubmitsTo request.query request.body) old reply new
AnswersAction action.Metrics old request reply new = ((reply ≡ counts_reply old) ⊎ (reply ≡ memory_reply)) × (new ≡ old)
AnswersAction action.List old request reply new = ((reply ≡ plain status.Ok (listing old.table)) ⊎ (reply ≡ memory_reply)) × (new ≡ old)
AnswersAction action.Fetch old request reply new = ChangesTable (IsJobReply event.Fetch (job_id request.path)) old reply new
AnswersAction action.Drop old request reply new = ChangesTable (IsJobReply event.Drop (job_id request.path)) old reply new

-- the reply to a decision
abbrev pub Answers : StateParts → DecisionParts → ReplyParts → StateParts → Type 0
Answers old (Refuses status) reply new = (reply ≡ status_reply status) × (new ≡ old)
Answers old (Disallows route) reply new = (reply ≡ disallowed route) × (new ≡ old)
Answers old (Accepts request) reply new = AnswersAction request.action old request reply new

-- The reply to an input of which this much was read: the reply to its decision; or the out-of-memory reply, if an allocation fails for a body
-- that isn't empty, with the state unchanged.
abbrev pub Replies : List ℕ → RequestRead → StateParts → ReplyParts → StateParts → Type 0
Replies input request_read old reply new =
    ((decision : DecisionParts) × IsDecided input decision × (request_read ≡ request_read_of decision) × Answers old decision reply new)
    ⊎ ((announced : AnnouncesBody input) × (0 < announced.count) × (request_read ≡ Partial) × (reply ≡ memory_reply) × (new ≡ old))
