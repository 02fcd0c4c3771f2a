-- Why a command fails: its exit status, and what it reports.
use Rattle.std.specs.Prelude.{◌≡◌, ◌≢◌, ℕ, List, [], ◌∷◌, ◌++◌, codes, decimal, ⊤, Result, Ok, Err}
use Rattle.std.specs.Borrow.{Bor}
use Rattle.std.specs.IoError.{error_kind}
use Rattle.std.specs.declared.io.Error.{Error}
use Rattle.std.specs.declared.io.ErrorKind.TheVariants.{BrokenPipe, IsADirectory, NotADirectory, NotFound, PermissionDenied, StorageFull}
use Rattle.addresses.specs.AddressFault as address_fault
use Rattle.addresses.specs.declared.fault.AddressFault.{AddressFault}
use Rattle.addresses.specs.declared.fault.AddressFault.TheVariants as address
use Rattle.bpf_insn.specs.CodeFault as code_fault
use Rattle.extract.specs.ExtractFault as extract_fault
use Rattle.bpf_assembler.specs.TextFault as text_fault
use Rattle.bpf_text.specs.declared.fault.SourceFault.{SourceFault}
use Rattle.bpf_text.specs.declared.fault.SourceFault.TheVariants as source
use Rattle.bpf_assembler.specs.declared.fault.TextFault.TheVariants as text
use Rattle.extract.specs.declared.fault.ExtractFault.{ExtractFault}
use Rattle.extract.specs.declared.fault.ExtractFault.TheVariants as extract
use Rattle.filters.specs.Failure.{failure_text, refusal_of}
use Rattle.refusals.specs.Refusal.{RefusalParts, line, memory}
use Rattle.refusals.specs.declared.refusal.Class.{Class}
use Rattle.refusals.specs.declared.refusal.Class.TheVariants as class
use Rattle.counted_io.specs.ReaderWriter.{Writer}
use Rattle.counted_io.specs.Writing as write_fault
use Rattle.counted_io.specs.Writing.{WritesText}
use Rattle.counted_io.specs.declared.writing.WriteFault.{WriteFault}
use Rattle.tl_segments.specs.declared.fault.CountyFile as county_file
use Rattle.named_files.specs.County.{file_name}
use Rattle.reports.specs.Escape.{escaped}
use Rattle.named_files.specs.Files.{Disk, IsUnfailed}
use Rattle.named_files.specs.declared.files.FileFault.{FileFault}
use Rattle.named_files.specs.declared.files.FileFault.TheVariants as fault
use Rattle.named_files.specs.declared.files.ProgramInputFault.{ProgramInputFault}
use Rattle.named_files.specs.declared.files.ProgramInputFault.TheVariants as program_input
use Rattle.commands.specs.declared.failure.Failure.{Failure}
use Rattle.commands.specs.declared.failure.Failure.TheVariants.{Refusal, Memory, Write, File, CountyFile, NotUtf8, NoLine, Filter, Addresses, County, Output}

-- the exit status for a class of refusals
abbrev pub class_status : Class → ℕ
class_status class.Refused = 1
class_status class.Io = 3
class_status class.Memory = 4

abbrev pub refusal_status : RefusalParts → ℕ
refusal_status refusal = class_status refusal.class

-- a line that the file doesn't have is a usage error (2); a file or an output that can't be used is 3
abbrev pub status : Failure → ℕ
status (Refusal refusal) = refusal_status refusal
status (Filter failure) = refusal_status (refusal_of failure)
status (Addresses refusal note) = refusal_status refusal
status (County code refusal) = refusal_status refusal
status Memory = 4
status (NoLine number) = 2
status failure = 3

-- A failed flush is reported after this failure. It isn't after a failed write, whose report is already about the output, nor after a usage error,
-- which leaves the output alone.
abbrev pub IsFailureBeforeFlush : Failure → Type 0
IsFailureBeforeFlush (Write fault) = ⊥
IsFailureBeforeFlush (NoLine number) = ⊥
IsFailureBeforeFlush failure = ⊤

-- why the file of this name, or a county's file, can't be used
abbrev pub of_file : Bor (List ℕ) → FileFault → Failure
of_file name (fault.Unusable error) = File name error
of_file name fault.Memory = Memory

abbrev pub of_county_file : Bor (List ℕ) → Bor (List ℕ) → county_file.CountyFile → FileFault → Failure
of_county_file folder code file (fault.Unusable error) = CountyFile folder code file error
of_county_file folder code file fault.Memory = Memory

-- why the file of this name yields no program
abbrev pub of_program : Bor (List ℕ) → ProgramInputFault → Failure
of_program name (program_input.File fault) = of_file name fault
of_program name (program_input.Code fault) = Refusal (code_fault.refusal fault)

-- why the source in the file of this name can't be assembled
abbrev pub of_source : Bor (List ℕ) → SourceFault → Failure
of_source name source.NotUtf8 = NotUtf8 name
of_source name (source.Text text.Memory) = Memory
of_source name (source.Text fault) = Refusal (text_fault.refusal fault)

-- why an extract isn't written completely
abbrev pub of_extract : ExtractFault → Failure
of_extract (extract.Write fault) = Write fault
of_extract fault = Refusal (extract_fault.refusal fault)

-- why a file of addresses can't be read
abbrev pub IsOfAddresses : AddressFault → Failure → Type 0
IsOfAddresses fault (Addresses refusal note) = (fault ≢ address.Memory) × (refusal ≡ address_fault.refusal fault)
IsOfAddresses fault (Refusal refusal) = (fault ≡ address.Memory) × (refusal ≡ memory)
IsOfAddresses fault failure = ⊥

-- why the extract of one of several counties isn't written completely
abbrev pub of_county_extract : Bor (List ℕ) → ExtractFault → Failure
of_county_extract code (extract.Write fault) = Write fault
of_county_extract code fault = County code (extract_fault.refusal fault)

-- why a file of one of several counties can't be opened
abbrev pub of_opening : Bor (List ℕ) → Bor (List ℕ) → county_file.CountyFile → FileFault → Failure
of_opening folder code file (fault.Unusable error) = CountyFile folder code file error
of_opening folder code file fault.Memory = County code memory

-- the text was written, unless a write failed or wrote 0 bytes
abbrev pub ReportsText : List ℕ → Writer → Writer → Type 0
ReportsText text errors errors' = (written : Result (Unit {0}) WriteFault) × WritesText text written errors errors'

-- the line was written, with its end of line
abbrev pub ReportsLine : List ℕ → Writer → Writer → Type 0
ReportsLine text errors errors' = ReportsText (text ++ 10 ∷ []) errors errors'

-- the report that memory ran out was written
abbrev pub ReportsMemory : Writer → Writer → Type 0
ReportsMemory errors errors' = ReportsLine (line memory) errors errors'

-- the reason that is reported for a system error: a phrase for a common one, and any text for the others
pub record IsReason (error : Error) (reason : List ℕ) : Type 0 where
  pub not_found : error_kind error ≡ NotFound → reason ≡ codes "not found"
  pub permission_denied : error_kind error ≡ PermissionDenied → reason ≡ codes "permission denied"
  pub is_a_directory : error_kind error ≡ IsADirectory → reason ≡ codes "is a directory"
  pub not_a_directory : error_kind error ≡ NotADirectory → reason ≡ codes "not a directory"
  pub storage_full : error_kind error ≡ StorageFull → reason ≡ codes "no space left"
  pub broken_pipe : error_kind error ≡ BrokenPipe → reason ≡ codes "broken pipe"

-- the line that says why the file of this name can't be used, with the control characters of the name escaped
abbrev pub file_line : List ℕ → List ℕ → List ℕ
file_line name reason = codes "error: " ++ escaped name ++ codes ": " ++ reason ++ 10 ∷ []

-- it was reported that the file of this name can't be used, with the reason for this error
abbrev pub ReportsFile : List ℕ → Error → Writer → Writer → Type 0
ReportsFile name error errors errors' = (reason : List ℕ) × IsReason error reason × ReportsText (file_line name reason) errors errors'

-- it was reported that the source of this name isn't UTF-8
abbrev pub ReportsNotUtf8 : List ℕ → Writer → Writer → Type 0
ReportsNotUtf8 name errors errors' = ReportsText (codes "error: " ++ escaped name ++ codes ": not UTF-8" ++ 10 ∷ []) errors errors'

-- the reason why the output can't be written was reported
abbrev pub ReportsOutput : Writer → Writer → Type 0
ReportsOutput errors errors' = (reason : List ℕ) × ReportsText (codes "error: the output can't be written: " ++ reason ++ 10 ∷ []) errors errors'

-- the report of a failure: for a refusal its line, followed by a note for a filter or addresses or by the code for one of several counties, on a second
-- line; otherwise a line that starts with `error: `
abbrev pub Reports : Failure → Writer → Writer → Type 0
Reports (Refusal refusal) errors errors' = ReportsLine (line refusal) errors errors'
Reports (Filter failure) errors errors' = ReportsText (failure_text failure) errors errors'
Reports (Addresses refusal note) errors errors' = ReportsText (line refusal ++ 10 ∷ note.bytes ++ 10 ∷ []) errors errors'
Reports (County code refusal) errors errors' = ReportsText (line refusal ++ 10 ∷ codes "county " ++ escaped code.now ++ 10 ∷ []) errors errors'
Reports Memory errors errors' = ReportsMemory errors errors'
Reports (Write fault) errors errors' = ReportsLine (line (write_fault.refusal fault)) errors errors'
Reports (File name error) errors errors' = ReportsFile name.now error errors errors'
Reports (CountyFile folder code file error) errors errors' = ReportsFile (file_name folder.now code.now file) error errors errors'
Reports (NotUtf8 name) errors errors' = ReportsNotUtf8 name.now errors errors'
Reports (NoLine number) errors errors' = ReportsText (codes "error: the type 1 file has no line " ++ decimal number ++ 10 ∷ []) errors errors'
Reports (Output error) errors errors' = ReportsOutput errors errors'

-- a file named in the failure satisfies the predicate
abbrev pub NamesFile : (List ℕ → Type 0) → Failure → Type 0
NamesFile IsFile (File name error) = IsFile name.now
NamesFile IsFile (CountyFile folder code file error) = IsFile (file_name folder.now code.now file)
NamesFile IsFile failure = ⊤

-- no open and no read failed, unless the status is 3
abbrev pub IsUnfailedUnlessUnusable : {T : Type 0} → Result T Failure → Disk → Disk → Type 0
IsUnfailedUnlessUnusable (Ok value) disk disk' = IsUnfailed disk disk'
IsUnfailedUnlessUnusable (Err failure) disk disk' = status failure ≢ 3 → IsUnfailed disk disk'

-- a value that a usage error leaves unchanged
abbrev pub IsUnchangedOnUsage : {T W : Type 0} → Result T Failure → W → W → Type 0
IsUnchangedOnUsage (Ok value) out out' = ⊤
IsUnchangedOnUsage (Err failure) out out' = status failure ≡ 2 → out' ≡ out

-- the text was written, completely or until the output failed
abbrev pub WritesAs : List ℕ → Result (Unit {0}) Failure → Writer → Writer → Type 0
WritesAs text (Ok done) out out' = WritesText text (Ok done) out out'
WritesAs text (Err failure) out out' = (fault : WriteFault) × (failure ≡ Write fault) × WritesText text (Err fault) out out'
