-- Status 3 if nothing is known of the results of opens.
use Rattle.std.proofs.Common.{ℕ, List, Err, inl, inr}
use Rattle.std.specs.declared.io.Error.{Error}
use Rattle.counted_io.specs.ReaderWriter.{Writer}
use Rattle.commands.specs.Command.{IsCarriedOut, IsUnusable}
use Rattle.commands.specs.Command.{of_county, of_county_file, of_file, of_flush, of_source, of_two, of_write}
use Rattle.commands.specs.declared.failure.Failure.{Failure}
use Rattle.commands.specs.declared.failure.Failure.TheVariants.{File, CountyFile}
use Rattle.commands.specs.declared.request.Request.{Request}
use Rattle.named_files.specs.County.{file_name}
use Rattle.named_files.specs.Files.{Disk, FailsToOpen, FailsToUse, OpenResults, unknown_opens}

module _ {R : Type 0} (opens : OpenResults R) (disk disk' : Disk) where
  open_forgotten : (name : List ℕ) (error : Error) → FailsToOpen (opens name) error disk disk'
      → FailsToOpen (unknown_opens name) error disk disk'
  open_forgotten name error fails = (tt, fails.1)

  use_forgotten : (name : List ℕ) (error : Error) → FailsToUse opens name error disk disk' → FailsToUse unknown_opens name error disk disk'
  use_forgotten name error (inl fails) = inl (open_forgotten name error fails)
  use_forgotten name error (inr fails) = inr (tt, tt, fails.2)

  outcome_forgotten : (request : Request) (failure : Failure) (out out' : Writer) → IsCarriedOut opens request (Err failure) disk disk' out out'
      → IsCarriedOut unknown_opens request (Err failure) disk disk' out out'
  outcome_forgotten request (File name error) out out' is = (is.0, use_forgotten name.now error is.1)
  outcome_forgotten request (CountyFile folder code file error) out out' is =
      (is.0, open_forgotten (file_name folder.now code.now file) error is.1)
  outcome_forgotten request failure out out' is = is

pub unusable_forgotten : {R : Type 0} {opens : OpenResults R} {request : Request} {disk disk' : Disk} {out out' errors errors' : Writer}
    → IsUnusable opens request disk disk' out out' errors errors' → IsUnusable unknown_opens request disk disk' out out' errors errors'
unusable_forgotten {opens} {disk} {disk'} (of_file name error is fails flushed reported) =
    of_file name error is (use_forgotten opens disk disk' name error fails) flushed reported
unusable_forgotten {opens} {disk} {disk'} (of_county_file name error is fails unflushed before flushed reported) =
    of_county_file name error is (open_forgotten opens disk disk' name error fails) unflushed before flushed reported
unusable_forgotten (of_county refused reads) = of_county refused reads
unusable_forgotten (of_source name is flushed reported) = of_source name is flushed reported
unusable_forgotten (of_write fault unflushed writes counts reported unchanged flush flushes) =
    of_write fault unflushed writes counts reported unchanged flush flushes
unusable_forgotten (of_flush unflushed written flush) = of_flush unflushed written flush
unusable_forgotten {opens} {request} {disk} {disk'} {out} (of_two twice) = of_two (record {
  failure = twice.failure;
  is_other = twice.is_other;
  unflushed = twice.unflushed;
  carried = record {
    outcome = outcome_forgotten opens disk disk' request twice.failure out twice.unflushed twice.carried.outcome;
    names = twice.carried.names;
    counts = twice.carried.counts;
    unflushed = twice.carried.unflushed;
  };
  between = twice.between;
  reported = twice.reported;
  flush = twice.flush;
})
