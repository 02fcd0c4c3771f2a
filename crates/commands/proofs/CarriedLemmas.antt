-- How any request is carried out: if a file can't be used, if a library refuses it, and if its text is written.
use Rattle.std.proofs.Common.{◌≡◌, ◌≢◌, ℕ, List, Option, Bor, Result, Ok, Err, IsErrAnd, refl, ap, sym, subst, ◌∙◌, arith, Bool}
use Rattle.bpf_insn.specs.CodeFault as code_fault
use Rattle.bpf_insn.specs.declared.fault.CodeFault.{CodeFault}
use Rattle.refusals.specs.Refusal.{RefusalParts}
use Rattle.counted_io.specs.Counting.{CountsFault}
use Rattle.counted_io.specs.ReaderWriter.{WriteCounts, Writer}
use Rattle.counted_io.specs.Writing.{WritesText}
use Rattle.counted_io.specs.declared.writing.WriteFault.{WriteFault}
use Rattle.commands.specs.Command.{CarriesOut, IsFileOf, IsRefused, IsRefusedFileOf, Writes, WritesBefore}
use Rattle.commands.specs.Failure.{IsUnchangedOnUsage, NamesFile, IsUnfailedUnlessUnusable, WritesAs, of_file, of_program, refusal_status}
use Rattle.named_files.specs.Files.{CountsProgramUse, CountsUse, Disk, IsProgramInputFault, IsProgramUseFault, IsTooLong, IsUnfailed, IsUseFault, OpenResults}
use Rattle.commands.specs.Inputs.{HoldTooLong, IsInputsFailure}
use Rattle.commands.specs.declared.request.Request.{Request}
use Rattle.commands.specs.declared.failure.Failure.{Failure}
use Rattle.commands.specs.declared.failure.Failure.TheVariants.{Refusal, Memory, File, CountyFile}
use Rattle.named_files.specs.declared.files.FileFault.{FileFault}
use Rattle.named_files.specs.declared.files.FileFault.TheVariants as fault
use Rattle.named_files.specs.declared.files.ProgramInputFault.{ProgramInputFault}
use Rattle.named_files.specs.declared.files.ProgramInputFault.TheVariants as input
use Rattle.commands.proofs.ClassLemmas.{code_status}
use Rattle.commands.proofs.ReadLemmas.{ReadsAs}

-- a refusal is not a usage error
pub refusal_not_usage : (refusal : RefusalParts) → refusal_status refusal ≢ 2
refusal_not_usage refusal two = grind (arith, two)

-- nor is a fault of the output
pub written_usage : {W : Type 0} (text : List ℕ) (result : Result (Unit {0}) Failure) (out out' : Writer) (w w' : W)
    → WritesAs text result out out' → IsUnchangedOnUsage result w w'
written_usage text result out out' w w' wrote = grind (arith, wrote)

-- a write's fault counts no flush
pub fault_unflushed : (fault : WriteFault) (counts counts' : WriteCounts) → CountsFault fault counts counts'
    → counts'.flushes ≡ counts.flushes
fault_unflushed fault counts counts' is = grind (arith, is)

module _ {R : Type 0} {opens : OpenResults R} {request : Request} {disk disk' : Disk} {out out' : Writer} where
  -- a library refuses the request
  pub refused_carried : (refusal : RefusalParts) → IsRefused request disk.known refusal out out' → disk'.failed_opens ≡ disk.failed_opens
      → ReadsAs (IsRefusedFileOf request) refusal disk.failed_reads disk'.failed_reads → out'.counts.flushes ≡ out.counts.flushes
      → CarriesOut opens request (Err (Refusal refusal)) disk disk' out out'
  refused_carried refusal refused opens reads unflushed = record {
    outcome = (refused, reads.fails);
    names = tt;
    counts = λ other. record { opens = opens; reads = reads.stays other };
    unflushed = unflushed;
  }

  -- the request's text was written, completely or until the output failed
  pub written_carried : (text : List ℕ) (result : Result (Unit {0}) Failure) → WritesAs text result out out' → IsUnfailed disk disk'
      → ((outcome : Result (Unit {0}) WriteFault) → WritesText text outcome out out' → Writes request disk.known outcome out out')
      → CarriesOut opens request result disk disk' out out'
  written_carried text (Ok done) wrote counts each = record {
    outcome = each (Ok done) wrote;
    names = tt;
    counts = counts;
    unflushed = ap (λ (counts : WriteCounts). counts.flushes) wrote.1;
  }
  written_carried text (Err failure) wrote counts each =
      subst (λ (failure : Failure). CarriesOut opens request (Err failure) disk disk' out out') (sym wrote.1) (record {
        outcome = each (Err wrote.0) wrote.2;
        names = tt;
        counts = λ no. counts;
        unflushed = fault_unflushed wrote.0 out.counts out'.counts wrote.2.1;
      })

module _ {R : Type 0} (opens : OpenResults R) {request : Request} {disk disk' : Disk} {out : Writer} where
  -- a file can't be used
  pub file_carried : (name : Bor (List ℕ)) (of : FileFault) → IsFileOf request name.now → IsUseFault opens name.now disk disk' of
      → CountsUse name.now of disk disk' → CarriesOut opens request (Err (of_file name of)) disk disk' out out
  file_carried name (fault.Unusable error) is fails uses =
      record { outcome = (refl, fails); names = is; counts = λ other. absurd (other refl); unflushed = refl }
  file_carried name fault.Memory is fails uses = record { outcome = refl; names = tt; counts = λ other. uses; unflushed = refl }

  -- an allocation fails
  pub memory_carried : (result : Result (Unit {0}) Failure) → IsErrAnd result (λ failure. failure ≡ Memory) → IsUnfailed disk disk'
      → CarriesOut opens request result disk disk' out out
  memory_carried (Ok done) is counts = absurd is
  memory_carried (Err failure) is counts =
      subst (λ (failure : Failure). CarriesOut opens request (Err failure) disk disk' out out) (sym is)
      (record { outcome = refl; names = tt; counts = λ other. counts; unflushed = refl })

  -- a program can't be read or is too long
  pub program_carried : (name : Bor (List ℕ)) (known : Option (List ℕ)) (of : ProgramInputFault) → IsFileOf request name.now
      → IsProgramInputFault known of → IsProgramUseFault opens name.now disk disk' of → CountsProgramUse {T = ℕ} name.now (Err of) disk disk'
      → ((code : CodeFault) → IsTooLong known code → IsRefused request disk.known (code_fault.refusal code) out out)
      → CarriesOut opens request (Err (of_program name of)) disk disk' out out
  program_carried name known (input.File of) is is_failure fails uses each = file_carried name of is fails uses
  program_carried name known (input.Code of) is is_failure fails uses each = record {
    outcome = (each of is_failure, λ three. absurd (code_status of three));
    names = tt;
    counts = λ other. uses;
    unflushed = refl;
  }

  -- the program or the county can't be read
  module _ {shapes : Bool} (name folder code : List ℕ) where
    pub inputs_carried : (failure : Failure) → IsInputsFailure opens shapes name folder code disk disk' failure → NamesFile (IsFileOf request) failure
        → IsUnfailedUnlessUnusable {T = ℕ} (Err failure) disk disk' → WritesBefore request disk.known out out
        → ((refusal : RefusalParts) → HoldTooLong shapes name folder code disk.known refusal → IsRefused request disk.known refusal out out)
        → CarriesOut opens request (Err failure) disk disk' out out
    inputs_carried (Refusal refusal) is names counts before each = record {
      outcome = (each refusal is, λ three. absurd (code_status is.fault (ap refusal_status (sym is.is_refusal) ∙ three)));
      names = names;
      counts = counts;
      unflushed = refl;
    }
    inputs_carried (File of error) is names counts before each = record { outcome = (refl, is); names = names; counts = counts; unflushed = refl }
    inputs_carried (CountyFile of_folder of_code file error) is names counts before each =
        record { outcome = (before, is); names = names; counts = counts; unflushed = refl }
    inputs_carried Memory is names counts before each = record { outcome = refl; names = names; counts = counts; unflushed = refl }
    inputs_carried failure is names counts before each = absurd is
