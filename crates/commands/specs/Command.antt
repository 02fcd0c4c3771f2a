-- What a command guarantees for each exit status.
use Rattle.std.specs.Prelude.{◌≡◌, ◌≢◌, ℕ, false, List, [], ◌∷◌, ◌++◌, codes, decimal, Option, Some, None, Result, Ok, Err, IfErr, IsUtf8}
use Rattle.std.specs.Io.KnownBytes.{Keeps}
use Rattle.std.specs.declared.io.Error.{Error}
use Rattle.refusals.specs.Refusal.{RefusalParts, line}
use Rattle.counted_io.specs.Counting.{CountsFault, CountsFlush}
use Rattle.counted_io.specs.ReaderWriter.{Writer}
use Rattle.counted_io.specs.Writing as write_fault
use Rattle.counted_io.specs.declared.writing.WriteFault.{WriteFault}
use Rattle.commands.specs.Assemble as assemble
use Rattle.commands.specs.Compile as compile
use Rattle.commands.specs.Counties.{FailsToRead, IsFileOfCounties, IsRefusedFile, IsRefusedFileOfOne}
use Rattle.commands.specs.Disassemble as disassemble
use Rattle.commands.specs.Explain as explain
use Rattle.commands.specs.Failure.{IsFailureBeforeFlush, NamesFile, Reports, ReportsFile, ReportsLine, ReportsMemory, ReportsNotUtf8, ReportsOutput, ReportsText, IsUnfailedUnlessUnusable, refusal_status}
use Rattle.commands.specs.Failure.{status as status_of}
use Rattle.named_files.specs.County.{file_name}
use Rattle.named_files.specs.Files.{Disk, FailsToOpen, FailsToUse, OpenResults}
use Rattle.commands.specs.Geocode as geocode
use Rattle.commands.specs.GeocodeBatch as geocode_batch
use Rattle.commands.specs.Inputs.{IsInput}
use Rattle.commands.specs.Run as run
use Rattle.commands.specs.Select as select
use Rattle.commands.specs.Trace as trace
use Rattle.commands.specs.Verify as verify
use Rattle.commands.specs.declared.request.Request.{Request}
use Rattle.commands.specs.declared.request.Request.TheVariants.{Run, Trace, Geocode, GeocodeBatch, Verify, Explain, Assemble, Disassemble, Compile, Select}
use Rattle.commands.specs.declared.failure.Failure.{Failure}
use Rattle.commands.specs.declared.failure.Failure.TheVariants.{Refusal, Memory, Write, File, CountyFile, NotUtf8, NoLine, Filter, Addresses, County, Output}
use Rattle.filters.specs.Filter.{IsFilterFailure}
use Rattle.filters.specs.declared.failure.FilterFailure.{FilterFailure}

-- the request's output was written, completely or until the output failed
abbrev pub Writes : Request → (List ℕ → Option (List ℕ)) → Result (Unit {0}) WriteFault → Writer → Writer → Type 0
Writes (Run arguments) known result out out' = run.Writes arguments known result out out'
Writes (Trace arguments) known result out out' = trace.Writes arguments known result out out'
Writes (Geocode arguments) known result out out' = geocode.Writes arguments known result out out'
Writes (GeocodeBatch arguments) known result out out' = geocode_batch.Writes arguments known result out out'
Writes (Verify arguments) known result out out' = verify.Writes arguments known result out out'
Writes (Explain arguments) known result out out' = explain.Writes arguments known result out out'
Writes (Assemble arguments) known result out out' = assemble.Writes arguments known result out out'
Writes (Disassemble arguments) known result out out' = disassemble.Writes arguments known result out out'
Writes (Compile arguments) known result out out' = compile.Writes arguments known result out out'
Writes (Select arguments) known result out out' = select.Writes arguments known result out out'

-- the request's output was written completely
abbrev pub IsWritten : Request → (List ℕ → Option (List ℕ)) → Writer → Writer → Type 0
IsWritten request known out out' = Writes request known (Ok tt) out out'

-- A library refused the request with this refusal. `compile` and `select` don't appear here: they are refused for their filter, or for one of
-- several counties.
abbrev pub IsRefused : Request → (List ℕ → Option (List ℕ)) → RefusalParts → Writer → Writer → Type 0
IsRefused (Run arguments) known refusal out out' = run.IsRefused arguments known refusal out out'
IsRefused (Trace arguments) known refusal out out' = trace.IsRefused arguments known refusal out out'
IsRefused (Geocode arguments) known refusal out out' = geocode.IsRefused arguments known refusal out out'
IsRefused (GeocodeBatch arguments) known refusal out out' = geocode_batch.IsRefused arguments known refusal out out'
IsRefused (Verify arguments) known refusal out out' = verify.IsRefused arguments known refusal out out'
IsRefused (Explain arguments) known refusal out out' = explain.IsRefused arguments known refusal out out'
IsRefused (Assemble arguments) known refusal out out' = assemble.IsRefused arguments known refusal out out'
IsRefused (Disassemble arguments) known refusal out out' = disassemble.IsRefused arguments known refusal out out'
IsRefused request known refusal out out' = ⊥

-- the request's filter has no program, and this is why
abbrev pub IsFilterRefused : Request → (List ℕ → Option (List ℕ)) → FilterFailure → Type 0
IsFilterRefused (Compile arguments) known failure = compile.IsRefused arguments known failure
IsFilterRefused (Select arguments) known failure = IsFilterFailure arguments.filter.now arguments.filter_options failure
IsFilterRefused request known failure = ⊥

-- the request's file of addresses is refused with this refusal
abbrev pub AreAddressesRefused : Request → (List ℕ → Option (List ℕ)) → RefusalParts → Type 0
AreAddressesRefused (GeocodeBatch arguments) known refusal = geocode_batch.AreAddressesRefused arguments known refusal
AreAddressesRefused request known refusal = ⊥

-- the county of this code, one of several, is refused with this refusal
abbrev pub IsCountyRefused : Request → (List ℕ → Option (List ℕ)) → List ℕ → RefusalParts → Writer → Writer → Type 0
IsCountyRefused (Select arguments) known code refusal out out' = select.IsRefusedAt arguments known code refusal out out'
IsCountyRefused request known code refusal out out' = ⊥

-- a library refused the request, which is reported as this failure
abbrev pub IsRefusedWith : Request → (List ℕ → Option (List ℕ)) → Failure → Writer → Writer → Type 0
IsRefusedWith request known (Refusal refusal) out out' = IsRefused request known refusal out out'
IsRefusedWith request known (Filter failure) out out' = IsFilterRefused request known failure × (out' ≡ out)
IsRefusedWith request known (Addresses refusal note) out out' = AreAddressesRefused request known refusal × (out' ≡ out)
IsRefusedWith request known (County code refusal) out out' = IsCountyRefused request known code.now refusal out out'
IsRefusedWith request known failure out out' = ⊥

-- what was written before a file turned out to be unusable: nothing, except that `select` has written the header and the counties before it
abbrev pub WritesBefore : Request → (List ℕ → Option (List ℕ)) → Writer → Writer → Type 0
WritesBefore (Select arguments) known out out' = select.WritesBefore arguments known out out'
WritesBefore request known out out' = out' ≡ out

-- the requested line isn't in the type 1 file; only `trace` requests a line
abbrev pub IsMissingLine : Request → (List ℕ → Option (List ℕ)) → ℕ → Type 0
IsMissingLine (Trace arguments) known number = trace.IsMissingLine arguments known number
IsMissingLine request known number = ⊥

-- the name of the request's source; only `asm` has one
abbrev pub source_of : Request → Option (List ℕ)
source_of (Assemble arguments) = Some arguments.source.now
source_of request = None

-- this is the name of the request's source, which isn't UTF-8
pub record IsNotUtf8 (request : Request) (known : List ℕ → Option (List ℕ)) (name : List ℕ) : Type 0 where
  pub is_source : source_of request ≡ Some name
  pub source : List ℕ
  pub holds : Keeps (known name) (Some source)
  pub no_text : ¬ IsUtf8 source

-- the request reads a file of this name
abbrev pub IsFileOf : Request → List ℕ → Type 0
IsFileOf (Run arguments) name = run.IsFileOf arguments name
IsFileOf (Trace arguments) name = IsInput false arguments.program.now arguments.«data».now arguments.code.now name
IsFileOf (Geocode arguments) name = IsFileOfCounties false arguments.«data».now (geocode.codes_of arguments) name
IsFileOf (GeocodeBatch arguments) name = geocode_batch.IsFileOf arguments name
IsFileOf (Verify arguments) name = name ≡ arguments.program.now
IsFileOf (Explain arguments) name = explain.IsFileOf arguments name
IsFileOf (Assemble arguments) name = name ≡ arguments.source.now
IsFileOf (Disassemble arguments) name = name ≡ arguments.program.now
IsFileOf (Compile arguments) name = name ≡ arguments.filter.now
IsFileOf (Select arguments) name = select.IsFileOf arguments name

-- this is the name of the county's file that a refusal of the request is for
abbrev pub IsRefusedFileOf : Request → RefusalParts → List ℕ → Type 0
IsRefusedFileOf (Run arguments) = IsRefusedFile arguments.«data».now arguments.code.now
IsRefusedFileOf (Trace arguments) = IsRefusedFile arguments.«data».now arguments.code.now
IsRefusedFileOf (Geocode arguments) = IsRefusedFileOfOne arguments.«data».now (geocode.codes_of arguments)
IsRefusedFileOf (GeocodeBatch arguments) = IsRefusedFileOfOne arguments.«data».now (geocode_batch.codes_of arguments)
IsRefusedFileOf request = λ refusal name. ⊥

-- the same for a refusal of one of several counties, the one of this code
abbrev pub IsRefusedFileAt : Request → List ℕ → RefusalParts → List ℕ → Type 0
IsRefusedFileAt (Select arguments) code = IsRefusedFile arguments.«data».now code
IsRefusedFileAt request code = λ refusal name. ⊥

-- the request fails with a refusal, and a read failed of the county's file that this refusal is for
abbrev pub FailsToReadFor : Request → Failure → Disk → Disk → Type 0
FailsToReadFor request (Refusal refusal) disk disk' = FailsToRead (IsRefusedFileOf request refusal) disk disk'
FailsToReadFor request (County code refusal) disk disk' = FailsToRead (IsRefusedFileAt request code.now refusal) disk disk'
FailsToReadFor request failure disk disk' = ⊥

-- The outcome of a request. Its output was written, completely or until the output failed. Or a library refuses it; if the status is 3, a read
-- failed of the file that the refusal is for. Or an open of the file that the failure names failed, or the file was opened and then a read of it
-- failed. Or memory ran out or the requested line doesn't exist, and nothing was written. The output isn't flushed.
abbrev pub IsCarriedOut : {R : Type 0} → OpenResults R → Request → Result (Unit {0}) Failure → Disk → Disk → Writer → Writer → Type 0
IsCarriedOut opens request (Ok done) disk disk' out out' = Writes request disk.known (Ok done) out out'
IsCarriedOut opens request (Err (Write fault)) disk disk' out out' = Writes request disk.known (Err fault) out out'
IsCarriedOut opens request (Err (Refusal refusal)) disk disk' out out' =
    IsRefused request disk.known refusal out out' × (refusal_status refusal ≡ 3 → FailsToReadFor request (Refusal refusal) disk disk')
IsCarriedOut opens request (Err (Filter failure)) disk disk' out out' = IsFilterRefused request disk.known failure × (out' ≡ out)
IsCarriedOut opens request (Err (Addresses refusal note)) disk disk' out out' = AreAddressesRefused request disk.known refusal × (out' ≡ out)
IsCarriedOut opens request (Err (County code refusal)) disk disk' out out' =
    IsCountyRefused request disk.known code.now refusal out out'
    × (refusal_status refusal ≡ 3 → FailsToReadFor request (County code refusal) disk disk')
IsCarriedOut opens request (Err (File name error)) disk disk' out out' = (out' ≡ out) × FailsToUse opens name.now error disk disk'
IsCarriedOut opens request (Err (CountyFile folder code file error)) disk disk' out out' =
    WritesBefore request disk.known out out' × FailsToOpen (opens (file_name folder.now code.now file)) error disk disk'
IsCarriedOut opens request (Err (NotUtf8 name)) disk disk' out out' = (out' ≡ out) × IsNotUtf8 request disk.known name.now
IsCarriedOut opens request (Err (NoLine number)) disk disk' out out' = (out' ≡ out) × IsMissingLine request disk.known number
IsCarriedOut opens request (Err Memory) disk disk' out out' = out' ≡ out
IsCarriedOut opens request (Err (Output error)) disk disk' out out' = ⊥

-- the same; also, a file named in the failure is one of the request's, no open and no read failed unless the status is 3, and the output wasn't
-- flushed
pub record CarriesOut {R : Type 0} (opens : OpenResults R) (request : Request) (result : Result (Unit {0}) Failure) (disk disk' : Disk)
    (out out' : Writer) : Type 0 where
  pub outcome : IsCarriedOut opens request result disk disk' out out'
  pub names : IfErr result (NamesFile (IsFileOf request))
  pub counts : IsUnfailedUnlessUnusable result disk disk'
  pub unflushed : out'.counts.flushes ≡ out.counts.flushes

-- the output was flushed and keeps what it held; its other counts are unchanged
pub record IsFlushed (out out' : Writer) : Type 0 where
  pub unchanged : Keeps out.held out'.held
  pub flushes : out'.counts.flushes ≢ out.counts.flushes
  pub failed : out'.counts.failed ≡ out.counts.failed
  pub empty : out'.counts.empty ≡ out.counts.empty

-- The flush of the output failed, and the failure was reported. The output keeps what it held.
pub record FailsFlush (out out' errors errors' : Writer) : Type 0 where
  pub unchanged : Keeps out.held out'.held
  pub failed : out'.counts.failed ≢ out.counts.failed
  pub reported : ReportsOutput errors errors'

-- the request's output was written completely, after what the output held before, and then the output was flushed
pub record IsDone (request : Request) (known : List ℕ → Option (List ℕ)) (out out' : Writer) : Type 0 where
  pub unflushed : Writer
  pub written : IsWritten request known out unflushed
  pub flushed : IsFlushed unflushed out'

-- A library refused the request, with this exit status. What was written by then was flushed, and the refusal was reported.
pub record IsRefusalOf (status : ℕ) (request : Request) (known : List ℕ → Option (List ℕ)) (out out' errors errors' : Writer) : Type 0 where
  pub failure : Failure
  pub is_status : status_of failure ≡ status
  pub unflushed : Writer
  pub refused : IsRefusedWith request known failure out unflushed
  pub flushed : IsFlushed unflushed out'
  pub reported : Reports failure errors errors'

-- the request was refused, and neither I/O nor an allocation failed
abbrev pub IsRefusal : Request → (List ℕ → Option (List ℕ)) → Writer → Writer → Writer → Writer → Type 0
IsRefusal request known out out' errors errors' = IsRefusalOf 1 request known out out' errors errors'

-- the requested line doesn't exist, and this was reported
pub record ReportsMissingLine (request : Request) (known : List ℕ → Option (List ℕ)) (errors errors' : Writer) : Type 0 where
  pub number : ℕ
  pub missing : IsMissingLine request known number
  pub reported : ReportsText (codes "error: the type 1 file has no line " ++ decimal number ++ 10 ∷ []) errors errors'

-- An allocation failed, and this was reported: either in a library, which refused the request for it, or elsewhere, and nothing was written. The
-- output was flushed.
pub data IsOutOfMemory (request : Request) (known : List ℕ → Option (List ℕ)) (out out' errors errors' : Writer) : Type 0 where
  of_library : IsRefusalOf 4 request known out out' errors errors' → IsOutOfMemory request known out out' errors errors'
  of_other : IsFlushed out out' → ReportsMemory errors errors' → IsOutOfMemory request known out out' errors errors'

-- The request failed, but no write did, and then the flush of what was written failed. The failure was reported, and the failed flush after it.
pub record FailsTwice {R : Type 0} (opens : OpenResults R) (request : Request) (disk disk' : Disk) (out out' errors errors' : Writer)
    : Type 0 where
  pub failure : Failure
  pub is_other : IsFailureBeforeFlush failure
  pub unflushed : Writer
  pub carried : CarriesOut opens request (Err failure) disk disk' out unflushed
  pub between : Writer
  pub reported : Reports failure errors between
  pub flush : FailsFlush unflushed out' between errors'

-- How a command ends that has failed, from the output that isn't flushed yet. The output was flushed and the failure reported. Or a write failed, and
-- the flush is attempted, but not reported. Or the flush failed too, and was reported after the failure.
pub data Ends (failure : Failure) (status : ℕ) (out out' errors errors' : Writer) : Type 0 where
  after_flush : status ≡ status_of failure → IsFlushed out out' → Reports failure errors errors' → Ends failure status out out' errors errors'
  after_write : (fault : WriteFault) → failure ≡ Write fault → status ≡ 3 → Keeps out.held out'.held → Reports failure errors errors'
      → (flush : Result (Unit {0}) Error) → CountsFlush flush out.counts out'.counts → Ends failure status out out' errors errors'
  after_failed_flush : IsFailureBeforeFlush failure → status ≡ 3 → (between : Writer) → Reports failure errors between
      → FailsFlush out out' between errors' → Ends failure status out out' errors errors'

-- Why a request fails with status 3. An open of one of the request's files failed, or the file was opened and then a read of it failed, and nothing
-- was written. Or an open of a county's file failed, and only the header and the counties before it were written. Or a library refused the request,
-- and a read failed of the county's file that the refusal is for. Or a source isn't UTF-8, and nothing was written. In all of these the output was
-- flushed. Or a write failed or wrote 0 bytes: a prefix was written, and a flush was attempted. Or everything was written, but the flush failed. Each
-- of these was reported. Or the request failed otherwise, and so did the flush, and both were reported.
pub data IsUnusable {R : Type 0} (opens : OpenResults R) (request : Request) (disk disk' : Disk) (out out' errors errors' : Writer)
    : Type 0 where
  of_file : (name : List ℕ) (error : Error) → IsFileOf request name → FailsToUse opens name error disk disk' → IsFlushed out out'
      → ReportsFile name error errors errors' → IsUnusable opens request disk disk' out out' errors errors'
  of_county_file : (name : List ℕ) (error : Error) → IsFileOf request name → FailsToOpen (opens name) error disk disk' → (unflushed : Writer)
      → WritesBefore request disk.known out unflushed → IsFlushed unflushed out' → ReportsFile name error errors errors'
      → IsUnusable opens request disk disk' out out' errors errors'
  of_county : (refused : IsRefusalOf 3 request disk.known out out' errors errors') → FailsToReadFor request refused.failure disk disk'
      → IsUnusable opens request disk disk' out out' errors errors'
  of_source : (name : List ℕ) → IsNotUtf8 request disk.known name → IsFlushed out out' → ReportsNotUtf8 name errors errors'
      → IsUnusable opens request disk disk' out out' errors errors'
  of_write : (fault : WriteFault) (unflushed : Writer) → Writes request disk.known (Err fault) out unflushed
      → CountsFault fault out.counts unflushed.counts → ReportsLine (line (write_fault.refusal fault)) errors errors'
      → Keeps unflushed.held out'.held → (flush : Result (Unit {0}) Error) → CountsFlush flush unflushed.counts out'.counts
      → IsUnusable opens request disk disk' out out' errors errors'
  of_flush : (unflushed : Writer) → IsWritten request disk.known out unflushed → FailsFlush unflushed out' errors errors'
      → IsUnusable opens request disk disk' out out' errors errors'
  of_two : FailsTwice opens request disk disk' out out' errors errors' → IsUnusable opens request disk disk' out out' errors errors'
