-- Unless an allocation fails, the same input has one reply and leaves one state.
use Rattle.std.proofs.Common.{◌≡◌, ◌≢◌, ◌<◌, ℕ, Bool, true, false, List, [], All, Option, Some, None, ◌⊎◌, inl, inr, refl, sym, ap, ◌∙◌, subst}
use Rattle.std.specs.Borrow.{Bor}
use Rattle.addresses.specs.AddressFault as address_fault
use Rattle.addresses.specs.declared.fault.AddressFault.{AddressFault}
use Rattle.address_batch.proofs.OutputLemmas.{fault_is, no_output_fault, one_output, one_output_fault}
use Rattle.address_batch.specs.Output.{IsAddressesFault, IsFaultOf}
use Rattle.bpf_explain.proofs.ExplanationLemmas.{one_explanation}
use Rattle.bpf_insn.proofs.CodeLemmas as code_of
use Rattle.bpf_insn.proofs.EncoderLemmas as encoder
use Rattle.bpf_insn.specs.Code.{IsCodeOf}
use Rattle.bpf_insn.specs.CodeFault as code_fault
use Rattle.bpf_insn.specs.declared.fault.CodeFault.{CodeFault}
use Rattle.bpf_insn.specs.declared.fault.CodeFault.TheVariants as code_variant
use Rattle.bpf_insn.specs.declared.instruction.Insn.{Insn}
use Rattle.bpf_assembler.proofs.StatementLemmas as text_of
use Rattle.bpf_text.specs.CodeText as spelled
use Rattle.bpf_text.specs.declared.fault.SourceFault.TheVariants.{NotUtf8, Text}
use Rattle.bpf_assembler.specs.declared.fault.TextFault.TheVariants as text_fault
use Rattle.bpf_assembler.specs.declared.fault.TextFault.TheVariants.{InLine}
use Rattle.bpf_program.proofs.VerdictLemmas as verdict
use Rattle.http_message.specs.Reply.{ReplyParts}
use Rattle.http_message.specs.declared.reply.MediaType.TheVariants.{Csv}
use Rattle.http_message.specs.declared.status.Status.TheVariants as status
use Rattle.http_message.specs.Target.{job_id}
use Rattle.http_message.specs.declared.route.Action.{Action}
use Rattle.http_message.specs.declared.route.Action.TheVariants as action
use Rattle.jobs.proofs.VerdictLemmas as submission
use Rattle.jobs.specs.Listing.{listing}
use Rattle.jobs.specs.Table.{JobParts, Step, Table, job_of, new_job, with_job, without_job}
use Rattle.jobs.specs.declared.event.Event.{Event}
use Rattle.jobs.specs.declared.event.Event.TheVariants as event
use Rattle.jobs.specs.declared.event.Reply.{Reply as JobReply}
use Rattle.jobs.specs.declared.event.Reply.TheVariants.{Submitted, Dropped, Refused}
use Rattle.jobs.specs.declared.fault.JobFault.TheVariants.{Full, NoJob, Program, Memory}
use Rattle.tl_segments.specs.County.{CountyParts}
use Rattle.wire.proofs.DecisionLemmas.{one_decision}
use Rattle.wire.proofs.EventLemmas.{fetched, reply_of_job, same_state}
use Rattle.wire.proofs.VerdictLemmas.{one_extract, one_verdict}
use Rattle.wire.specs.Answer.{Answers, AnswersAction, IsJobReply, AssemblesTo, DisassemblesTo, ExplainsTo, GeocodesAllTo}
use Rattle.wire.specs.Answer.{Replies, Submits, IsTableReply}
use Rattle.wire.specs.Answer.{body_reply, counts_reply, explained_reply, job_reply, memory_reply, octets, place_reply, plain, refusal_reply, source_reply}
use Rattle.wire.specs.Decision.{RoutedParts, DecisionParts, IsDecided, Accepts, SendsFilter, takes_filter}
use Rattle.wire.specs.Query.{requested_place}
use Rattle.wire.specs.State.{StateParts}
use Rattle.wire.specs.declared.decision.RequestRead.{RequestRead}

-- one reply, and one state
abbrev pub IsOne : {T : Type 0} → ReplyParts → ReplyParts → T → T → Type 0
IsOne reply other new again = (reply ≡ other) × (new ≡ again)

abbrev pub AreBytes : ReplyParts → Type 0
AreBytes reply = All (λ byte. byte < 256) reply.body

-- two replies other than out of memory, both made of bytes
record AreKnown (reply other : ReplyParts) : Type 0 where
  pub known : reply ≢ memory_reply
  pub given : other ≢ memory_reply
  pub small : AreBytes reply
  pub little : AreBytes other

module _ (reply other : ReplyParts) (are : AreKnown reply other) where
  one_source : (source : List ℕ) → AssemblesTo source reply → AssemblesTo source other → reply ≡ other
  one_source source (inr (Text text_fault.Memory, faulty, is_reply)) also = absurd (are.known is_reply)
  one_source source is (inr (Text text_fault.Memory, faulty, is_reply)) = absurd (are.given is_reply)
  one_source source (inl is) (inl also) =
      let code = text_of.one-code source is.1.code also.1.code is.1.means also.1.means in
      let coded = subst (λ (code : List Insn). IsCodeOf is.0 code) code is.1.are_words in
      let fits = subst (λ (reply : ReplyParts). AreBytes reply) is.2 are.small in
      let fitting = subst (λ (reply : ReplyParts). AreBytes reply) also.2 are.little in
      is.2 ∙ ap octets (encoder.one_spelling is.0 also.0 also.1.code fits fitting coded also.1.are_words) ∙ sym also.2
  one_source source (inl is) (inr (NotUtf8, isnt, is_reply)) = absurd (isnt is.1.is_text)
  one_source source (inr (NotUtf8, isnt, is_reply)) (inl also) = absurd (isnt also.1.is_text)
  one_source source (inl is) (inr (Text (InLine line flaw), faulty, is_reply)) =
      absurd (text_of.no-fault source is.1.code line flaw is.1.means faulty.1)
  one_source source (inr (Text (InLine line flaw), faulty, is_reply)) (inl also) =
      absurd (text_of.no-fault source also.1.code line flaw also.1.means faulty.1)
  one_source source (inr (NotUtf8, isnt, is_reply)) (inr (NotUtf8, isnt', is_reply')) = is_reply ∙ sym is_reply'
  one_source source (inr (NotUtf8, isnt, is_reply)) (inr (Text (InLine line flaw), faulty, is_reply')) = absurd (isnt faulty.0)
  one_source source (inr (Text (InLine line flaw), faulty, is_reply)) (inr (NotUtf8, isnt, is_reply')) = absurd (isnt faulty.0)
  one_source source (inr (Text (InLine line flaw), faulty, is_reply)) (inr (Text (InLine line' flaw'), faulty', is_reply')) =
      is_reply
      ∙ ap (λ fault. source_reply (Text fault))
      (text_of.one-fault source (InLine line flaw) (InLine line' flaw') faulty.1 faulty'.1 (λ e. cc) (λ e. cc))
      ∙ sym is_reply'

  abbrev code_reply : CodeFault → ReplyParts
  code_reply fault = refusal_reply (code_fault.refusal fault)

  not_memory : (reply : ReplyParts) (fault : CodeFault) → reply ≢ memory_reply → reply ≡ code_reply fault → fault ≢ code_variant.Memory
  not_memory reply fault known is memory = known (is ∙ ap code_reply memory)

  one_text : (program : List ℕ) → DisassemblesTo program reply → DisassemblesTo program other → reply ≡ other
  one_text program (inl is) (inl also) =
      let code = verdict.same_code program is.1.code also.1.code is.1.is_code also.1.is_code in
      is.2 ∙ ap (plain status.Ok) (is.1.is_text ∙ ap spelled.text_of code ∙ sym also.1.is_text) ∙ sym also.2
  one_text program (inl is) (inr also) =
      absurd (not_memory other also.0 are.given also.2 (code_of.memory_alone program is.1.code also.0 is.1.is_code also.1))
  one_text program (inr is) (inl also) =
      absurd (not_memory reply is.0 are.known is.2 (code_of.memory_alone program also.1.code is.0 also.1.is_code is.1))
  one_text program (inr is) (inr also) =
      let one = code_of.one_fault program is.0 also.0 is.1 also.1 (not_memory reply is.0 are.known is.2)
      (not_memory other also.0 are.given also.2) in
      is.2 ∙ ap code_reply one ∙ sym also.2

  one_explained : (program : List ℕ) → ExplainsTo program reply → ExplainsTo program other → reply ≡ other
  one_explained program (inr memory) also = absurd (are.known memory)
  one_explained program is (inr memory) = absurd (are.given memory)
  one_explained program (inl (text, verdict, is, is_reply)) (inl (text', verdict', also, is_reply')) =
      let one = one_explanation program [] text text' verdict verdict' is also in
      is_reply ∙ ap (λ (text : List ℕ). explained_reply text verdict) one.0 ∙ ap (explained_reply text') one.1 ∙ sym is_reply'

  -- a reply that can only be replaced by that for a failed allocation
  one_unless_memory : (made : ReplyParts) → (reply ≡ made) ⊎ (reply ≡ memory_reply) → (other ≡ made) ⊎ (other ≡ memory_reply) → reply ≡ other
  one_unless_memory made (inr memory) also = absurd (are.known memory)
  one_unless_memory made is (inr memory) = absurd (are.given memory)
  one_unless_memory made (inl is) (inl also) = is ∙ sym also

  abbrev address_reply : AddressFault → ReplyParts
  address_reply fault = refusal_reply (address_fault.refusal fault)

  -- a fault of a file of addresses, if an allocation didn't fail
  known_fault : (file : List ℕ) (given : ReplyParts) (fault : AddressFault) → given ≢ memory_reply → given ≡ address_reply fault
      → IsAddressesFault file fault → IsFaultOf file fault
  known_fault file given fault known is_reply is = fault_is file fault (λ memory. known (is_reply ∙ ap address_reply memory)) is

  one_batch : (codes : List (List ℕ)) (counties : List CountyParts) (file : List ℕ) → GeocodesAllTo codes counties file reply
      → GeocodesAllTo codes counties file other → reply ≡ other
  one_batch codes counties file (inl is) (inl also) =
      is.2 ∙ ap (body_reply Csv) (one_output file codes counties is.0 also.0 is.1 also.1) ∙ sym also.2
  one_batch codes counties file (inl is) (inr (fault, faulty, is_reply)) =
      absurd (no_output_fault file codes counties is.0 fault is.1 (known_fault file other fault are.given is_reply faulty))
  one_batch codes counties file (inr (fault, faulty, is_reply)) (inl also) =
      absurd (no_output_fault file codes counties also.0 fault also.1 (known_fault file reply fault are.known is_reply faulty))
  one_batch codes counties file (inr (fault, faulty, is_reply)) (inr (fault', faulty', is_reply')) =
      is_reply
      ∙ ap address_reply (one_output_fault file fault fault' (known_fault file reply fault are.known is_reply faulty)
      (known_fault file other fault' are.given is_reply' faulty'))
      ∙ sym is_reply'

-- A submission has the same reply for each program with these bytes.
resubmitted : (old new : Table) (program copy : Bor (List ℕ)) (reply : JobReply) → program.now ≡ copy.now
    → Step old (event.Submit copy) reply new
    → Step old (event.Submit program) reply new
resubmitted old new program copy (Submitted id) same step = rw same step
resubmitted old new program copy (Refused Full) same step = step
resubmitted old new program copy (Refused (Program fault)) same step = rw same step
resubmitted old new program copy (Refused Memory) same step = step
resubmitted old new program copy reply same step = absurd step

one_table : (old new again : Table) (program : Bor (List ℕ)) (reply : JobReply) → Step old (event.Submit program) reply new
    → Step old (event.Submit program) reply again → new ≡ again
one_table old new again program (Submitted id) is also =
    let code = verdict.same_code program.now is.2 also.2 is.3.is_code also.3.is_code in
    is.4 ∙ ap (λ (code : List Insn). with_job old id (new_job code)) code ∙ sym also.4
one_table old new again program (Refused Full) is also = is.1 ∙ sym also.1
one_table old new again program (Refused (Program fault)) is also = is.3 ∙ sym also.3
one_table old new again program (Refused Memory) is also = is.1 ∙ sym also.1
one_table old new again program reply is also = absurd is

-- the table after a request to remove a job
abbrev left_without : Table → ℕ → Option JobParts → Table
left_without table id None = table
left_without table id (Some job) = without_job table id

dropped : (old new : Table) (id : ℕ) (reply : JobReply) → Step old (event.Drop id) reply new
    → (job_reply reply ≡ reply_of_job (λ _. job_reply Dropped) (job_of old id)) × (new ≡ left_without old id (job_of old id))
dropped old new id Dropped ((job, there), is) = rw there (refl, is)
dropped old new id (Refused NoJob) step = rw step.0 (refl, step.1)
dropped old new id reply step = absurd step

-- the event of a submission, for a program with these bytes
submitted : (body : List ℕ) (made : Event) → Submits body made
    → (program : Bor (List ℕ)) × (made ≡ event.Submit program) × (program.now ≡ body)
submitted body (event.Submit program) is = (program, refl, is)
submitted body made is = absurd is

module _ (old new again : StateParts) (reply other : ReplyParts) (are : AreKnown reply other) where
  one_of_job : (make : ℕ → Event) (id : Option ℕ)
      → ((q : ℕ) (table_reply other_reply : JobReply) → Step old.table (make q) table_reply new.table → Step old.table (make q) other_reply again.table
      → IsOne (job_reply table_reply) (job_reply other_reply) new.table again.table)
      → IsJobReply make id old.table reply new.table → IsJobReply make id old.table other again.table → IsOne reply other new.table again.table
  one_of_job make None steps is also = (is.0 ∙ sym also.0, is.1 ∙ sym also.1)
  one_of_job make (Some id) steps is also =
      let both = steps id is.table_reply also.table_reply (subst (λ event. Step old.table event is.table_reply new.table) is.is_event is.step)
      (subst (λ event. Step old.table event also.table_reply again.table) also.is_event also.step) in
      (is.is_reply ∙ both.0 ∙ sym also.is_reply, both.1)

  not_refused : (reply : ReplyParts) (table_reply : JobReply) → reply ≢ memory_reply → reply ≡ job_reply table_reply → table_reply ≢ Refused Memory
  not_refused reply table_reply known is_reply memory = known (is_reply ∙ ap job_reply memory)

  one_submission : (body : List ℕ) → IsTableReply (Submits body) old.table reply new.table
      → IsTableReply (Submits body) old.table other again.table → IsOne reply other new.table again.table
  one_submission body is also =
      let first = submitted body is.event is.is_event in
      let second = submitted body also.event also.is_event in
      let step = subst (λ event. Step old.table event is.table_reply new.table) first.1 is.step in
      let copied = resubmitted old.table again.table first.0 second.0 also.table_reply (first.2 ∙ sym second.2)
      (subst (λ event. Step old.table event also.table_reply again.table) second.1 also.step) in
      let one = submission.one_reply old.table new.table again.table first.0 is.table_reply also.table_reply step copied
      (not_refused reply is.table_reply are.known is.is_reply) (not_refused other also.table_reply are.given also.is_reply) in
      let same = one_table old.table new.table again.table first.0 is.table_reply step
      (subst (λ table_reply. Step old.table (event.Submit first.0) table_reply again.table) (sym one) copied) in
      (is.is_reply ∙ ap job_reply one ∙ sym also.is_reply, same)

  -- a request about jobs changes neither the codes nor the counters
  one_change : IsOne reply other new.table again.table → (new.codes ≡ old.codes) × (new.counters ≡ old.counters)
      → (again.codes ≡ old.codes) × (again.counters ≡ old.counters) → IsOne reply other new again
  one_change one is also = (one.0, same_state new again one.1 (is.0 ∙ sym also.0) (is.1 ∙ sym also.1))

  one_answer : (action : Action) (request : RoutedParts) → takes_filter action ≡ false → AnswersAction action old request reply new
      → AnswersAction action old request other again → IsOne reply other new again
  one_answer action.Index request no_filter is also = (is.0 ∙ sym also.0, is.1 ∙ sym also.1)
  one_answer action.Health request no_filter is also = (is.0 ∙ sym also.0, is.1 ∙ sym also.1)
  one_answer action.Verify request no_filter is also =
      (one_verdict request.body reply other is.0 also.0 are.known are.given, is.1 ∙ sym also.1)
  one_answer action.Assemble request no_filter is also = (one_source reply other are request.body is.0 also.0, is.1 ∙ sym also.1)
  one_answer action.Disassemble request no_filter is also = (one_text reply other are request.body is.0 also.0, is.1 ∙ sym also.1)
  one_answer action.Explain request no_filter is also = (one_explained reply other are request.body is.0 also.0, is.1 ∙ sym also.1)
  one_answer action.Extract request no_filter is also =
      (one_extract old.table.counties request.body reply other is.0 also.0 are.known are.given, is.1 ∙ sym also.1)
  one_answer action.Geocode request no_filter is also =
      (one_unless_memory reply other are (place_reply old.table.counties (requested_place request.query)) is.0 also.0, is.1 ∙ sym also.1)
  one_answer action.GeocodeBatch request no_filter is also =
      (one_batch reply other are old.codes old.table.counties request.body is.0 also.0, is.1 ∙ sym also.1)
  one_answer action.Submit request no_filter is also = one_change (one_submission request.body is.0 also.0) (is.1, is.2) (also.1, also.2)
  one_answer action.Metrics request no_filter is also = (one_unless_memory reply other are (counts_reply old) is.0 also.0, is.1 ∙ sym also.1)
  one_answer action.List request no_filter is also =
      (one_unless_memory reply other are (plain status.Ok (listing old.table)) is.0 also.0, is.1 ∙ sym also.1)
  one_answer action.Fetch request no_filter is also = one_change (one_of_job event.Fetch (job_id request.path) (λ id table_reply other_reply step step'.
      let first = fetched old.table new.table id table_reply step in
      let second = fetched old.table again.table id other_reply step' in
      (first.0 ∙ sym second.0, first.1 ∙ sym second.1)) is.0 also.0) (is.1, is.2) (also.1, also.2)
  one_answer action.Drop request no_filter is also = one_change (one_of_job event.Drop (job_id request.path) (λ id table_reply other_reply step step'.
      let first = dropped old.table new.table id table_reply step in
      let second = dropped old.table again.table id other_reply step' in
      (first.0 ∙ sym second.0, first.1 ∙ sym second.1)) is.0 also.0) (is.1, is.2) (also.1, also.2)
  one_answer action.Select request no_filter is also = let no : ⊥ = cc in absurd no
  one_answer action.Compile request no_filter is also = let no : ⊥ = cc in absurd no
  one_answer action.SubmitFilter request no_filter is also = let no : ⊥ = cc in absurd no

  one_decided : (decision : DecisionParts) → ((request : RoutedParts) → decision ≡ Accepts request → takes_filter request.action ≡ false)
      → Answers old decision reply new → Answers old decision other again → IsOne reply other new again
  one_decided (Accepts request) no_filter is also = one_answer request.action request (no_filter request refl) is also
  one_decided decision no_filter is also = (is.0 ∙ sym also.0, is.1 ∙ sym also.1)

-- a reply to an input, other than out of memory
pub record IsKnownReply (input : List ℕ) (old : StateParts) (reply : ReplyParts) (new : StateParts) : Type 0 where
  pub request_read : RequestRead
  pub replies : Replies input request_read old reply new
  pub bytes : AreBytes reply
  pub known : reply ≢ memory_reply

pub one_reply_lem : (input : List ℕ) (old new again : StateParts) (reply other : ReplyParts) → (SendsFilter input → ⊥)
    → IsKnownReply input old reply new → IsKnownReply input old other again → IsOne reply other new again
one_reply_lem input old new again reply other no_filter first second = by first.replies second.replies
  where
    filterless : (decision : DecisionParts) → IsDecided input decision → (request : RoutedParts) → decision ≡ Accepts request
        → takes_filter request.action ≡ false
    filterless decision decided request is = by_test (takes_filter request.action) refl
      where
        by_test : (takes : Bool) → takes_filter request.action ≡ takes → takes ≡ false
        by_test false test = refl
        by_test true test = absurd (no_filter (request, subst (λ decision. IsDecided input decision) is decided, test))

    by : Replies input first.request_read old reply new → Replies input second.request_read old other again → IsOne reply other new again
    by (inr stopped) also = absurd (first.known stopped.3)
    by is (inr stopped) = absurd (second.known stopped.3)
    by (inl is) (inl also) =
        let are : AreKnown reply other =
        record { known = first.known; given = second.known; small = first.bytes; little = second.bytes } in
        let same = one_decision input also.0 is.0 also.1 is.1 in
        one_decided old new again reply other are is.0 (filterless is.0 is.1) is.3 (subst (λ decision. Answers old decision other again) same also.3)
