-- The files that a command reads: what opening, reading and closing them counts, and what an input has left.
use Rattle.std.specs.Prelude.{◌≡◌, ◌≢◌, ◌⊎◌, ◌<◌, ◌≤◌, ◌*◌, ℕ, List, [], length, take, Option, Some, None, ⊤, Result, Ok, Err, MatchResult}
use Rattle.std.specs.Io.KnownBytes.{Keeps}
use Rattle.std.specs.Option.{option_map_or}
use Rattle.std.specs.IoError.{error_kind}
use Rattle.std.specs.declared.io.Error.{Error}
use Rattle.std.specs.declared.io.ErrorKind.TheVariants.{NotFound, OutOfMemory}
use Rattle.bpf_insn.specs.Code.{IsFirstFault}
use Rattle.bpf_insn.specs.declared.fault.CodeFault.{CodeFault}
use Rattle.bpf_insn.specs.declared.fault.CodeFault.TheVariants as code_fault
use Rattle.bpf_insn.specs.declared.code.TheConstants.{MAX_WORDS}
use Rattle.counted_io.specs.ReaderWriter.{Reader}
use Rattle.named_files.specs.declared.files.FileFault.{FileFault}
use Rattle.named_files.specs.declared.files.FileFault.TheVariants.{Unusable, Memory}
use Rattle.named_files.specs.declared.files.ProgramInputFault.{ProgramInputFault}
use Rattle.named_files.specs.declared.files.ProgramInputFault.TheVariants.{File, Code}
use Rattle.named_files.specs.declared.files.Input.{Input}
use Rattle.named_files.specs.declared.files.Input.TheVariants as input

-- a failed open changes the count, unless memory ran out; a successful one doesn't
abbrev pub CountsOpen : {R : Type 0} → Result R Error → ℕ → ℕ → Type 0
CountsOpen (Ok reader) failed failed' = failed' ≡ failed
CountsOpen (Err error) failed failed' =
    (error_kind error ≡ OutOfMemory → failed' ≡ failed) × (error_kind error ≢ OutOfMemory → failed' ≢ failed)

-- the counts of failed reads, by the name of the file
abbrev pub ReadCounts : Type 0
ReadCounts = List ℕ → ℕ

-- the count of each name stays the same
abbrev pub KeepsCounts : ReadCounts → ReadCounts → Type 0
KeepsCounts failed failed' = (name : List ℕ) → failed' name ≡ failed name

-- closing a reader of the file of this name changes the count of the name if any of its reads failed, and leaves all counts otherwise
abbrev pub CountsClose : List ℕ → ℕ → ReadCounts → ReadCounts → Type 0
CountsClose name reads failed failed' = (reads ≡ 0 → KeepsCounts failed failed') × (reads ≢ 0 → failed' name ≢ failed name)

-- An opened reader reads from the file that the system opened. If there is no reader, the system's open failed with this error, or there was no
-- memory for the reader.
abbrev pub OpensReader : {F R : Type 0} → (Result F Error → Type 0) → (R → F) → Result R Error → Type 0
OpensReader HasResult file_of (Ok reader) = HasResult (Ok (file_of reader))
OpensReader HasResult file_of (Err error) = HasResult (Err error) ⊎ (error_kind error ≡ OutOfMemory)

-- the open of a file that may be missing: there is no reader only if the open failed because the file doesn't exist
abbrev pub OpensOptional : {R : Type 0} → (Result R Error → Type 0) → Result (Option R) Error → Type 0
OpensOptional HasResult (Ok (Some reader)) = HasResult (Ok reader)
OpensOptional HasResult (Ok None) = (error : Error) × HasResult (Err error) × (error_kind error ≡ NotFound)
OpensOptional HasResult (Err error) = HasResult (Err error) × (error_kind error ≢ NotFound)

-- an empty file, none of whose reads has failed
abbrev pub nothing : Reader
nothing = record { left = Some []; failed = 0 }

-- an opened reader; nothing if there is no file
abbrev pub optional_reader : {R : Type 0} → (R → Reader) → Option R → Reader
optional_reader reader opened = option_map_or reader opened nothing

-- a file is unusable exactly if a call on it failed, which its count shows
abbrev pub CountsFileFault : FileFault → ℕ → ℕ → Type 0
CountsFileFault (Unusable error) failed failed' = failed' ≢ failed
CountsFileFault Memory failed failed' = failed' ≡ failed

abbrev pub CountsFileResult : {T : Type 0} → Result T FileFault → ℕ → ℕ → Type 0
CountsFileResult (Ok value) failed failed' = failed' ≡ failed
CountsFileResult (Err fault) failed failed' = CountsFileFault fault failed failed'

-- the reader of an input
abbrev pub input_reader : {R : Type 0} → (R → Reader) → Input R → Reader
input_reader reader (input.Opened r) = reader r
input_reader reader input.Nothing = nothing

-- a reader whose remaining bytes agree with what is known of them, and none of whose reads has failed
pub record IsUnread (known : Option (List ℕ)) (reader : Reader) : Type 0 where
  pub left : Keeps known reader.left
  pub failed : reader.failed ≡ 0

-- The files: the bytes of the file of each name, if they are known; the count of failed opens, except those that ran out of memory; and the counts of
-- closed readers with a failed read, by name. A file that doesn't exist has no bytes, or unknown ones. Counts are modulo 2^64.
pub record Disk : Type 0 where
  pub known : List ℕ → Option (List ℕ)
  pub failed_opens : ℕ
  pub failed_reads : ReadCounts

-- no open and no read failed
pub record IsUnfailed (disk disk' : Disk) : Type 0 where
  pub opens : disk'.failed_opens ≡ disk.failed_opens
  pub reads : KeepsCounts disk.failed_reads disk'.failed_reads

-- a read of the file of this name failed
abbrev pub HasFailedRead : List ℕ → Disk → Disk → Type 0
HasFailedRead name disk disk' = disk'.failed_reads name ≢ disk.failed_reads name

-- an open failed, or a read of the file of this name
abbrev pub IsFailed : List ℕ → Disk → Disk → Type 0
IsFailed name disk disk' = (disk'.failed_opens ≢ disk.failed_opens) ⊎ HasFailedRead name disk disk'

-- What is known of the files stays the same. A failed open is counted if it makes a file unusable; nothing else is counted.
pub record Opens {T E : Type 0} (result : Result T E) (fault_of : E → FileFault) (disk disk' : Disk) : Type 0 where
  pub stays : (name : List ℕ) → disk'.known name ≡ disk.known name
  pub opens : MatchResult result (λ _. disk'.failed_opens ≡ disk.failed_opens)
      (λ fault. CountsFileFault (fault_of fault) disk.failed_opens disk'.failed_opens)
  pub reads : KeepsCounts disk.failed_reads disk'.failed_reads

-- What is known of the files stays the same. Closing readers counts those with a failed read as `CountsReads` says, and counts no open.
pub record Closes (CountsReads : ReadCounts → ReadCounts → Type 0) (disk disk' : Disk) : Type 0 where
  pub stays : (name : List ℕ) → disk'.known name ≡ disk.known name
  pub opens : disk'.failed_opens ≡ disk.failed_opens
  pub reads : CountsReads disk.failed_reads disk'.failed_reads

-- the file of this name is unusable if its open or a read of it failed
abbrev pub CountsUse : List ℕ → FileFault → Disk → Disk → Type 0
CountsUse name (Unusable error) disk disk' = IsFailed name disk disk'
CountsUse name Memory disk disk' = IsUnfailed disk disk'

abbrev pub CountsUseResult : {T : Type 0} → List ℕ → Result T FileFault → Disk → Disk → Type 0
CountsUseResult name (Ok value) disk disk' = IsUnfailed disk disk'
CountsUseResult name (Err fault) disk disk' = CountsUse name fault disk disk'

-- These are the first `limit` bytes of a file, or all if it has fewer, consistent with what is known of its bytes.
pub record IsPrefix (limit : ℕ) (known : Option (List ℕ)) (prefix : List ℕ) : Type 0 where
  pub whole : List ℕ
  pub is_whole : Keeps known (Some whole)
  pub is_prefix : prefix ≡ take limit whole

-- the file has these bytes, consistent with what is known of them, and fewer than `end`
pub record IsShort (end : ℕ) (known : Option (List ℕ)) (bytes : List ℕ) : Type 0 where
  pub is_file : Keeps known (Some bytes)
  pub short : length bytes < end

-- the file has at least `end` bytes, consistent with what is known of them
pub record IsLong (end : ℕ) (known : Option (List ℕ)) : Type 0 where
  pub bytes : List ℕ
  pub is_file : Keeps known (Some bytes)
  pub long : end ≤ length bytes

-- The program is longer than the limit of words, and is refused for its length alone.
pub record IsTooLong (known : Option (List ℕ)) (fault : CodeFault) : Type 0 where
  pub program : List ℕ
  pub is_program : Keeps known (Some program)
  pub long : 8 * MAX_WORDS < length program
  pub first : IsFirstFault program fault
  pub has_number : fault ≢ code_fault.Memory

-- what a fault implies for a program, given what is known of its bytes
abbrev pub IsProgramInputFault : Option (List ℕ) → ProgramInputFault → Type 0
IsProgramInputFault known (Code fault) = IsTooLong known fault
IsProgramInputFault known (File fault) = ⊤

-- a program that is refused was read to its end, and no read failed
abbrev pub CountsProgramFault : ProgramInputFault → ℕ → ℕ → Type 0
CountsProgramFault (File fault) failed failed' = CountsFileFault fault failed failed'
CountsProgramFault (Code fault) failed failed' = failed' ≡ failed

abbrev pub CountsProgramUse : {T : Type 0} → List ℕ → Result T ProgramInputFault → Disk → Disk → Type 0
CountsProgramUse name (Ok program) disk disk' = IsUnfailed disk disk'
CountsProgramUse name (Err (File fault)) disk disk' = CountsUse name fault disk disk'
CountsProgramUse name (Err (Code fault)) disk disk' = IsUnfailed disk disk'

-- which results an open of the file of a name has, as far as is known
abbrev pub OpenResults : Type 0 → Type 1
OpenResults R = List ℕ → Result R Error → Type 0

-- nothing is known of the results of opens
abbrev pub unknown_opens : OpenResults ⊤
unknown_opens name result = ⊤

-- a file can't be opened: an open of it failed with this error
abbrev pub FailsToOpen : {R : Type 0} → (Result R Error → Type 0) → Error → Disk → Disk → Type 0
FailsToOpen HasResult error disk disk' = HasResult (Err error) × (disk'.failed_opens ≢ disk.failed_opens)

-- the file of this name can't be used: an open of it failed with this error; or it was opened, and then a read of it failed
abbrev pub FailsToUse : {R : Type 0} → OpenResults R → List ℕ → Error → Disk → Disk → Type 0
FailsToUse {R} opens name error disk disk' =
    FailsToOpen (opens name) error disk disk' ⊎ ((reader : R) × opens name (Ok reader) × HasFailedRead name disk disk')

-- why a file can't be opened: an open of it failed with this error, or memory ran out
abbrev pub IsOpenFault : {R : Type 0} → (Result R Error → Type 0) → FileFault → Type 0
IsOpenFault HasResult (Unusable error) = HasResult (Err error)
IsOpenFault HasResult Memory = ⊤

-- the file isn't refused for not existing
abbrev pub IsNotMissing : FileFault → Type 0
IsNotMissing (Unusable error) = error_kind error ≢ NotFound
IsNotMissing Memory = ⊤

-- why the file of this name can't be read: it can't be used, with this error; or memory ran out
abbrev pub IsUseFault : {R : Type 0} → OpenResults R → List ℕ → Disk → Disk → FileFault → Type 0
IsUseFault opens name disk disk' (Unusable error) = FailsToUse opens name error disk disk'
IsUseFault opens name disk disk' Memory = ⊤

-- the same for a program, unless it is refused for its length
abbrev pub IsProgramUseFault : {R : Type 0} → OpenResults R → List ℕ → Disk → Disk → ProgramInputFault → Type 0
IsProgramUseFault opens name disk disk' (File fault) = IsUseFault opens name disk disk' fault
IsProgramUseFault opens name disk disk' (Code fault) = ⊤
