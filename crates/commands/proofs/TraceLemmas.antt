-- How `trace` is carried out, by how it ends.
use Rattle.std.proofs.Common.{◌≡◌, ℕ, false, List, Option, Result, Err, refl, ap, sym, subst, ◌∙◌}
use Rattle.bpf_meaning.specs.declared.outcome.Outcome.{Outcome}
use Rattle.refusals.specs.Refusal.{RefusalParts}
use Rattle.counted_io.specs.ReaderWriter.{Writer}
use Rattle.tl_segments.specs.County.{CountyReaders}
use Rattle.commands.specs.Command.{CarriesOut}
use Rattle.commands.specs.Counties.{IsRefusedFile}
use Rattle.named_files.specs.County.{ClosesCounty, HoldCounty}
use Rattle.commands.specs.Failure.{WritesAs, refusal_status}
use Rattle.named_files.specs.Files.{Closes, Disk, IsUnfailed, OpenResults, ReadCounts}
use Rattle.commands.specs.Inputs.{HoldTooLong}
use Rattle.commands.specs.Trace.{IsTraceResult, HoldRequested, IsOutcomeOn, IsRefused, IsTraceFault, of_code, of_county, outcome_line}
use Rattle.commands.specs.declared.failure.Failure.{Failure}
use Rattle.commands.specs.declared.failure.Failure.TheVariants.{Refusal, NoLine}
use Rattle.commands.specs.declared.request.Request.TheVariants as request
use Rattle.commands.specs.declared.trace.Trace.{Trace}
use Rattle.commands.proofs.CarriedLemmas.{refused_carried, written_carried}
use Rattle.commands.proofs.ClassLemmas.{code_status}
use Rattle.commands.proofs.ReadLemmas.{ReadsAs, county_closed, county_from, loads_county, sound, unread_county}

-- a program that is too long is refused before the county is read
pub trace_too_long : (trace : Trace) (known : List ℕ → Option (List ℕ)) (out : Writer) (refusal : RefusalParts)
    → HoldTooLong false trace.program.now trace.«data».now trace.code.now known refusal → IsRefused trace known refusal out out
trace_too_long trace known out refusal is = record {
  program = is.long.program;
  old = is.readers;
  hold = record { is_program = is.long.is_program; county = is.hold };
  new = is.readers;
  fault = of_code is.fault is.long.first is.is_refusal refl;
  unwritten = refl;
}

-- what closing the county's readers counts if there is no outcome
fault_closed : {known : List ℕ → Option (List ℕ)} {folder code program : List ℕ} {old new : CountyReaders} {failed failed' : ReadCounts}
    → HoldCounty false known folder code old → ClosesCounty folder code new failed failed' → (refusal : RefusalParts)
    → IsTraceFault program old new refusal → ReadsAs (IsRefusedFile folder code) refusal failed failed'
fault_closed hold closes refusal (of_code fault first is same) =
    sound (λ three. code_status fault (ap refusal_status (sym is) ∙ three)) (unread_county hold closes same)
fault_closed {folder = folder} {code = county_code} {failed = failed} {failed' = failed'} hold closes refusal (of_county code has fault loads is) =
    subst (λ (refusal : RefusalParts). ReadsAs (IsRefusedFile folder county_code) refusal failed failed') (sym is)
    (county_closed hold closes fault loads)

module _ {R : Type 0} {opens : OpenResults R} {trace : Trace} {disk between disk' : Disk} {program bytes : List ℕ} {old new : CountyReaders}
    (hold : HoldRequested trace disk.known program old) (before : IsUnfailed disk between)
    (closes : Closes (ClosesCounty trace.«data».now trace.code.now new) between disk')
    (same : bytes ≡ program) where
  -- the outcome was passed to the output
  pub outcome_written : {outcome : Outcome} (result : Result (Unit {0}) Failure) {out out' : Writer}
      → IsOutcomeOn trace bytes old new outcome → WritesAs (outcome_line outcome) result out out'
      → CarriesOut opens (request.Trace trace) result disk disk' out out'
  outcome_written {outcome} result is wrote =
      written_carried (outcome_line outcome) result wrote
      (record { opens = closes.opens ∙ before.opens; reads = loads_county hold.county (county_from before.reads closes.reads) is.county is.loads })
      (λ _ writes. record {
        program = program;
        old = old;
        hold = hold;
        new = new;
        outcome = outcome;
        is_outcome = subst (λ (bytes : List ℕ). IsOutcomeOn trace bytes old new outcome) same is;
        written = writes;
      })

  -- there is no outcome
  stopped : (failure : Failure) {out : Writer} → IsTraceResult trace program old new (Err failure)
      → CarriesOut opens (request.Trace trace) (Err failure) disk disk' out out
  stopped (Refusal refusal) is =
      refused_carried refusal (record { program = program; old = old; hold = hold; new = new; fault = is; unwritten = refl })
      (closes.opens ∙ before.opens) (fault_closed hold.county (county_from before.reads closes.reads) refusal is) refl
  stopped (NoLine line) is = record {
    outcome = (refl, record { is_line = is.0; program = program; old = old; hold = hold; new = new; without = is.1 });
    names = tt;
    counts = λ no. record {
      opens = closes.opens ∙ before.opens;
      reads = loads_county hold.county (county_from before.reads closes.reads) is.1.county is.1.loads;
    };
    unflushed = refl;
  }
  stopped failure is = absurd is

  pub no_outcome : (failure : Failure) {out : Writer} → IsTraceResult trace bytes old new (Err failure)
      → CarriesOut opens (request.Trace trace) (Err failure) disk disk' out out
  no_outcome failure is = stopped failure (subst (λ (bytes : List ℕ). IsTraceResult trace bytes old new (Err failure)) same is)
