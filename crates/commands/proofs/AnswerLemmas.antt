-- What each exit status guarantees, given how a request was carried out.
use Rattle.std.proofs.Common.{◌≡◌, ◌≢◌, ℕ, List, Option, Result, Ok, Err, inl, inr, refl, ap, subst, sym, arith, ◌∙◌}
use Rattle.std.specs.declared.io.Error.{Error}
use Rattle.refusals.specs.Refusal.{RefusalParts}
use Rattle.counted_io.specs.Counting.{CountsFault, CountsFlush}
use Rattle.counted_io.specs.ReaderWriter.{WriteCounts, Writer}
use Rattle.counted_io.specs.declared.writing.WriteFault.{WriteFault}
use Rattle.commands.specs.Command.{CarriesOut, Ends, IsCarriedOut, IsFlushed, IsFilterRefused, AreAddressesRefused, IsRefusal, IsRefusalOf, IsRefusedWith}
use Rattle.commands.specs.Command.{Writes, after_failed_flush, after_flush, after_write}
use Rattle.named_files.specs.County.{file_name}
use Rattle.commands.specs.Failure.{IsFailureBeforeFlush, Reports, refusal_status, status}
use Rattle.named_files.specs.Files.{Disk, OpenResults}
use Rattle.commands.specs.Command.{IsUnusable, of_county, of_county_file, of_file, of_source, of_two, of_write}
use Rattle.commands.proofs.ClassLemmas.{address_status, filter_status}
use Rattle.commands.proofs.LayerLemmas.{header_counts, header_fault_counts, headed_fault_counts, layer_fault_counts}
use Rattle.commands.proofs.SelectLemmas.{counties_counts}
use Rattle.filters.specs.Failure.{refusal_of}
use Rattle.filters.specs.declared.failure.FilterFailure.{FilterFailure}
use Rattle.layers.specs.LayerParts.{parts_of}
use Rattle.commands.specs.declared.request.Request.{Request}
use Rattle.commands.specs.declared.request.Request.TheVariants.{Run, Compile, GeocodeBatch, Select, Explain}
use Rattle.commands.specs.declared.failure.Failure.{Failure}
use Rattle.commands.specs.declared.failure.Failure.TheVariants.{Refusal, Write, File, CountyFile, NotUtf8, NoLine, Filter, Addresses, County, Output}

-- an attempted flush is counted
pub flush_counted : (flush : Result (Unit {0}) Error) (counts counts' : WriteCounts) → CountsFlush flush counts counts'
    → counts'.flushes ≢ counts.flushes
flush_counted flush counts counts' is same = grind (arith, is, same)

-- a fault of the output is counted as one
write_counts : (request : Request) (known : List ℕ → Option (List ℕ)) (fault : WriteFault) (out out' : Writer)
    → Writes request known (Err fault) out out' → CountsFault fault out.counts out'.counts
write_counts (Run arguments) known fault out out' is =
    headed_fault_counts (parts_of arguments.layer) is.outcome.0 fault is.old is.new out out' is.outcome.2
write_counts (Select arguments) known fault out out' (program, is_program, inl is) =
    header_fault_counts (parts_of arguments.layer) fault out out' is
write_counts (Select arguments) known fault out out' (program, is_program, inr (headed, header, is)) =
    subst (λ (counts : WriteCounts). CountsFault fault counts out'.counts)
    (counties_counts is.written ∙ header_counts (parts_of arguments.layer) out headed header)
    (layer_fault_counts (parts_of arguments.layer) program fault is.stops.old is.stops.new is.between out' is.stops.outcome)
write_counts request known fault out out' is = is.written.1

-- a filter is never refused for a failed read or write
filter_usable : (request : Request) (known : List ℕ → Option (List ℕ)) (failure : FilterFailure) → IsFilterRefused request known failure
    → refusal_status (refusal_of failure) ≢ 3
filter_usable (Compile arguments) known failure is = filter_status is.text arguments.filter_options failure is.refused
filter_usable (Select arguments) known failure is = filter_status arguments.filter.now arguments.filter_options failure is
filter_usable request known failure is = absurd is

-- nor are addresses
addresses_usable : (request : Request) (known : List ℕ → Option (List ℕ)) (refusal : RefusalParts) → AreAddressesRefused request known refusal
    → refusal_status refusal ≢ 3
addresses_usable (GeocodeBatch arguments) known refusal is = λ three. address_status is.fault (ap refusal_status (sym is.refused) ∙ three)
addresses_usable request known refusal is = absurd is

flushed_as : {out unflushed out' : Writer} → unflushed ≡ out → IsFlushed unflushed out' → IsFlushed out out'
flushed_as {out' = out'} = subst (λ (writer : Writer). IsFlushed writer out')

module _ (failure : Failure) {of : ℕ} {out out' errors errors' : Writer} (other : of ≢ 3) where
  -- another status than 3 is that of the failure, which was reported after a flush
  ends_status : Ends failure of out out' errors errors' → of ≡ status failure
  ends_status (after_flush is flush reported) = is
  ends_status (after_write fault is three unchanged reported flush counts) = absurd (other three)
  ends_status (after_failed_flush before three between reported flush) = absurd (other three)

  ends_flushed : Ends failure of out out' errors errors' → IsFlushed out out' × Reports failure errors errors'
  ends_flushed (after_flush is flush reported) = (flush, reported)
  ends_flushed (after_write fault is three unchanged reported flush counts) = absurd (other three)
  ends_flushed (after_failed_flush before three between reported flush) = absurd (other three)

-- a failure that is neither a failed write nor a usage error
pub before_flush : (failure : Failure) → ((fault : WriteFault) → failure ≢ Write fault) → status failure ≢ 2 → IsFailureBeforeFlush failure
before_flush (Write fault) written usage = absurd (written fault refl)
before_flush (NoLine number) written usage = absurd (usage refl)
before_flush failure written usage = tt

-- what was written was flushed, and then a library's refusal was reported
module _ {of : ℕ} {request : Request} (known : List ℕ → Option (List ℕ)) {out out' errors errors' : Writer} (unflushed : Writer)
    (flushed : IsFlushed unflushed out') where
  abbrev refusal_reported : (failure : Failure) → IsRefusedWith request known failure out unflushed → Reports failure errors errors'
      → status failure ≡ of → IsRefusalOf of request known out out' errors errors'
  refusal_reported failure refused reported is = record {
    failure = failure;
    is_status = is;
    unflushed = unflushed;
    refused = refused;
    flushed = flushed;
    reported = reported;
  }

module _ {R : Type 0} {opens : OpenResults R} {request : Request} {disk disk' : Disk} {out unflushed out' errors errors' : Writer}
    (flush : IsFlushed unflushed out') where
  refused_flushed : (failure : Failure) → CarriesOut opens request (Err failure) disk disk' out unflushed → Reports failure errors errors'
      → status failure ≡ 1 → IsRefusal request disk.known out out' errors errors'
  refused_flushed (Refusal refusal) carried reported one = refusal_reported disk.known unflushed flush (Refusal refusal) carried.outcome.0 reported one
  refused_flushed (Filter failure) carried reported one = refusal_reported disk.known unflushed flush (Filter failure) carried.outcome reported one
  refused_flushed (Addresses refusal note) carried reported one =
      refusal_reported disk.known unflushed flush (Addresses refusal note) carried.outcome reported one
  refused_flushed (County code refusal) carried reported one = refusal_reported disk.known unflushed flush (County code refusal) carried.outcome.0 reported one
  refused_flushed failure carried reported one = absurd (omega (arith, one))

  unusable_flushed : (failure : Failure) → CarriesOut opens request (Err failure) disk disk' out unflushed → Reports failure errors errors'
      → status failure ≡ 3 → IsUnusable opens request disk disk' out out' errors errors'
  unusable_flushed (Refusal refusal) carried reported three =
      of_county (refusal_reported disk.known unflushed flush (Refusal refusal) carried.outcome.0 reported three) (carried.outcome.1 three)
  unusable_flushed (County code refusal) carried reported three =
      of_county (refusal_reported disk.known unflushed flush (County code refusal) carried.outcome.0 reported three) (carried.outcome.1 three)
  unusable_flushed (Filter failure) carried reported three = absurd (filter_usable request disk.known failure carried.outcome.0 three)
  unusable_flushed (Addresses refusal note) carried reported three =
      absurd (addresses_usable request disk.known refusal carried.outcome.0 three)
  unusable_flushed (Write fault) carried reported three =
      of_write fault unflushed carried.outcome (write_counts request disk.known fault out unflushed carried.outcome) reported
      flush.unchanged (Ok tt) (flush.failed, flush.empty, flush.flushes)
  unusable_flushed (File name error) carried reported three =
      of_file name.now error carried.names carried.outcome.1 (flushed_as carried.outcome.0 flush) reported
  unusable_flushed (CountyFile folder code file error) carried reported three =
      of_county_file (file_name folder.now code.now file) error carried.names carried.outcome.1 unflushed carried.outcome.0 flush reported
  unusable_flushed (NotUtf8 name) carried reported three =
      of_source name.now carried.outcome.1 (flushed_as carried.outcome.0 flush) reported
  unusable_flushed (Output error) carried reported three = absurd carried.outcome
  unusable_flushed failure carried reported three = absurd (omega (arith, three))

module _ {of : ℕ} {R : Type 0} {opens : OpenResults R} {request : Request} {disk disk' : Disk} {out unflushed out' errors errors' : Writer} (failure : Failure)
    (carried : CarriesOut opens request (Err failure) disk disk' out unflushed) (ends : Ends failure of unflushed out' errors errors') where
  -- a library refused the request
  pub refused_ended : of ≡ 1 → IsRefusal request disk.known out out' errors errors'
  refused_ended one =
      let other : of ≢ 3 = λ three. omega (arith, one, three) in
      let is = ends_flushed failure other ends in
      refused_flushed is.0 failure carried is.1 (sym (ends_status failure other ends) ∙ one)

-- a file or the output can't be used
module _ {of : ℕ} {R : Type 0} {opens : OpenResults R} {request : Request} {disk disk' : Disk} {out unflushed out' errors errors' : Writer} where
  pub unusable_ended : (failure : Failure) → CarriesOut opens request (Err failure) disk disk' out unflushed
      → Ends failure of unflushed out' errors errors' → of ≡ 3 → IsUnusable opens request disk disk' out out' errors errors'
  unusable_ended failure carried (after_flush is flush reported) three = unusable_flushed flush failure carried reported (sym is ∙ three)
  unusable_ended failure carried (after_write fault is unusable unchanged reported flush counts) three =
      let outcome : Writes request disk.known (Err fault) out unflushed =
      subst (λ (failure : Failure). IsCarriedOut opens request (Err failure) disk disk' out unflushed) is carried.outcome in
      of_write fault unflushed outcome (write_counts request disk.known fault out unflushed outcome)
      (subst (λ (failure : Failure). Reports failure errors errors') is reported) unchanged flush counts
  unusable_ended failure carried (after_failed_flush before unusable between reported flush) three = of_two (record {
    failure = failure;
    is_other = before;
    unflushed = unflushed;
    carried = carried;
    between = between;
    reported = reported;
    flush = flush;
  })
