use Rattle.std.proofs.Common.{refl, ap, codes, ◌∙◌}
use Rattle.http_message.specs.declared.status.Status.TheVariants as status
use Rattle.http_message.specs.Routes.{index}
use Rattle.wire.specs.Answer.{plain}
use Rattle.wire.specs.Reply.{reply_of}
use Rattle.wire.proofs.AnswerLemmas.{filter_counties, job_counties, of_submission, step_counties, writes_implied, writes_such}
use Rattle.wire.proofs.state.State.answer_request.Goals as goal

pub returns-in-Index : goal.returns-in-Index
returns-in-Index g c = writes_such _ (plain status.Ok index) _ _ _ (rw c.in-Index.is (refl, refl)) (rw c.index.ensures at c.write.ensures)

pub returns-in-Health : goal.returns-in-Health
returns-in-Health g c = writes_such _ (plain status.Ok (codes "ok\n")) _ _ _ (rw c.in-Health.is (refl, refl)) c.write-in-Health.ensures

pub returns-in-Verify : goal.returns-in-Verify
returns-in-Verify g c = writes_such _ (reply_of c.verify.result) _ _ _
    (rw c.in-Verify.is (rw c.as_slice-body.ensures.value at c.verify.ensures, refl)) c.write-in-Verify.ensures

pub returns-in-Assemble : goal.returns-in-Assemble
returns-in-Assemble g c = writes_such _ (reply_of c.assemble.result) _ _ _
    (rw c.in-Assemble.is (rw c.as_slice-body.ensures.value at c.assemble.ensures, refl)) c.write-in-Assemble.ensures

pub returns-in-Disassemble : goal.returns-in-Disassemble
returns-in-Disassemble g c = writes_such _ (reply_of c.disassemble.result) _ _ _
    (rw c.in-Disassemble.is (rw c.as_slice-body.ensures.value at c.disassemble.ensures, refl)) c.write-in-Disassemble.ensures

pub returns-in-Explain : goal.returns-in-Explain
returns-in-Explain g c = writes_such _ (reply_of c.explain_program.result) _ _ _
    (rw c.in-Explain.is (rw c.as_slice-body.ensures.value at c.explain_program.ensures, refl)) c.write-in-Explain.ensures

pub returns-in-Extract : goal.returns-in-Extract
returns-in-Extract g c =
    let counties = c.counties.ensures.value ∙ ap (λ state. state.table.counties) c.self.view_is in
    writes_such _ (reply_of c.extract.result) _ _ _
    (rw c.in-Extract.is (rw (counties, c.as_slice-body.ensures.value) at c.extract.ensures, refl)) c.write-in-Extract.ensures

pub returns-in-Select : goal.returns-in-Select
returns-in-Select g c =
    let counties = c.counties-counties.ensures.value ∙ ap (λ state. state.table.counties) c.self.view_is in
    writes_such _ (reply_of c.select.result) _ _ _
    (rw c.in-Select.is (rw (counties, c.as_slice-body.ensures.value) at c.select.ensures, refl)) c.write-in-Select.ensures

pub returns-in-Compile : goal.returns-in-Compile
returns-in-Compile g c = writes_such _ (reply_of c.compile_filter.result) _ _ _
    (rw c.in-Compile.is (rw c.as_slice-body.ensures.value at c.compile_filter.ensures, refl)) c.write-in-Compile.ensures

pub returns-in-GeocodeBatch : goal.returns-in-GeocodeBatch
returns-in-GeocodeBatch g c = writes_such _ (reply_of c.geocode_batch.result) _ _ _
    (rw c.in-GeocodeBatch.is (rw c.as_slice-body.ensures.value at c.geocode_batch.ensures, refl)) c.write-in-GeocodeBatch.ensures

pub returns-in-Submit : goal.returns-in-Submit
returns-in-Submit g c =
    let table = ap (λ state. state.table) c.self.view_is in
    let codes = ap (λ state. state.codes) c.self.view_is in
    let counters = ap (λ state. state.counters) c.self.view_is in
    writes_implied _ _ _ _ _
    (λ reply is. rw c.in-Submit.is (of_submission _ _ _ _ reply c.as_slice-body.ensures.value (rw table at is), codes, counters)) c.write_job_reply.ensures

pub returns-in-SubmitFilter : goal.returns-in-SubmitFilter
returns-in-SubmitFilter g c =
    let table = ap (λ state. state.table) c.self.view_is in
    let codes = ap (λ state. state.codes) c.self.view_is in
    let counters = ap (λ state. state.counters) c.self.view_is in
    writes_implied _ _ _ _ _
    (λ reply is. rw c.in-SubmitFilter.is (rw (table, c.as_slice-body.ensures.value) at is, codes, counters)) c.submit_filter.ensures

pub returns-in-Fetch : goal.returns-in-Fetch
returns-in-Fetch g c =
    let table = ap (λ state. state.table) c.self.view_is in
    let codes = ap (λ state. state.codes) c.self.view_is in
    let counters = ap (λ state. state.counters) c.self.view_is in
    writes_implied _ _ _ _ _ (λ reply is. rw c.in-Fetch.is (rw table at is, codes, counters)) c.fetch.ensures

pub returns-in-Drop : goal.returns-in-Drop
returns-in-Drop g c =
    let table = ap (λ state. state.table) c.self.view_is in
    let codes = ap (λ state. state.codes) c.self.view_is in
    let counters = ap (λ state. state.counters) c.self.view_is in
    writes_implied _ _ _ _ _ (λ reply is. rw c.in-Drop.is (rw table at is, codes, counters)) c.remove.ensures

pub returns-in-Geocode : goal.returns-in-Geocode
returns-in-Geocode g c =
    let counties = c.counties-counties-in-Geocode.ensures.value ∙ ap (λ state. state.table.counties) c.self.view_is in
    writes_such _ (reply_of c.geocode.result) _ _ _ (rw c.in-Geocode.is (rw counties at c.geocode.ensures, refl)) c.write-in-Geocode.ensures

pub returns-in-Metrics : goal.returns-in-Metrics
returns-in-Metrics g c = writes_such _ (reply_of c.counts_answer.result) _ _ _ (rw c.in-Metrics.is (c.counts_answer.ensures, refl)) c.write-in-Metrics.ensures

pub returns-in-List : goal.returns-in-List
returns-in-List g c =
    let table = ap (λ state. state.table) c.self.view_is in
    writes_such _ (reply_of c.list.result) _ _ _ (rw c.in-List.is (rw table at c.list.ensures, refl)) c.write-in-List.ensures

pub invariant_of-self : goal.invariant_of-self
invariant_of-self g c = rw (step_counties _ _ _ _ c.write_job_reply.ensures.is_such.step) c.self.invariant

pub invariant_of-self-in-SubmitFilter : goal.invariant_of-self-in-SubmitFilter
invariant_of-self-in-SubmitFilter g c = rw (filter_counties _ _ _ _ _ c.submit_filter.ensures.is_such) c.self.invariant

pub invariant_of-self-in-Fetch : goal.invariant_of-self-in-Fetch
invariant_of-self-in-Fetch g c = rw (job_counties _ _ _ _ _ c.fetch.ensures.is_such) c.self.invariant

pub invariant_of-self-in-Drop : goal.invariant_of-self-in-Drop
invariant_of-self-in-Drop g c = rw (job_counties _ _ _ _ _ c.remove.ensures.is_such) c.self.invariant
