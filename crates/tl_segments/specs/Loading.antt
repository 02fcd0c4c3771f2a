-- The effect of loading a county's files on their readers, and the first fault of a file.
use Rattle.std.specs.Prelude.{◌≡◌, ◌≢◌, ℕ, ◌+◌, ◌^◌, ◌<◌, ◌≤◌, ◌⊎◌, List, [], ◌∷◌, ◌++◌, length, All, Option, Some, IfSome, IsSome}
use Rattle.std.specs.Io.KnownBytes.{IsAtEnd}
use Rattle.counted_io.specs.ReaderWriter.{Reader}
use Rattle.tl_records.specs.Lines.{IsFirstLine, AreFirstLines, AreLines, BeginsTooLong, FailsWithin, HasOneMoreByte, IfKnown, max_bytes}
use Rattle.tl_records.specs.Records.{IsValidLine, line_fault_kind}
use Rattle.tl_records.specs.declared.fault.LineFault.{LineFault}
use Rattle.tl_records.specs.declared.fault.LineFaultKind.{LineFaultKind}
use Rattle.tl_records.specs.declared.fault.LineFaultKind.TheVariants.{WrongLength, WrongType, BadSequence, Read, TooManyLines}
use Rattle.tl_segments.specs.CountyFile.{layout}
use Rattle.tl_segments.specs.Joining.{JoinedLines, IsWithinLimits}
use Rattle.tl_segments.specs.Shape.{HasDistinctSequences}
use Rattle.tl_segments.specs.declared.fault.CountyFile.{CountyFile}
use Rattle.tl_segments.specs.declared.fault.CountyFile.TheVariants.{Rt2, Rt4, Rt5, Rt6}
use Rattle.tl_segments.specs.declared.fault.LoadFault.{LoadFault}
use Rattle.tl_segments.specs.declared.fault.LoadFault.TheVariants.{Line, TooManyNames, TooManyRanges, RepeatedSequence, TooManyPoints, Memory}

-- lines of a file without a fault: each is good for its type, together they are within the limits, and no sequence number is repeated
pub record AreValidLines (file : CountyFile) (lines : List (List ℕ)) : Type 0 where
  pub good : All (IsValidLine (layout file)) lines
  pub within : IsWithinLimits file lines
  pub distinct : HasDistinctSequences file lines

-- lines of types 4, 5 and 6 without a fault
pub record AreValidJoined (lines : JoinedLines) : Type 0 where
  pub rt4 : AreValidLines Rt4 lines.rt4
  pub rt5 : AreValidLines Rt5 lines.rt5
  pub rt6 : AreValidLines Rt6 lines.rt6

-- A file was read to its end, and no read failed. These are good lines, at most 2^32 - 1 of them; if the reader's bytes are known, they are the
-- file's lines.
pub record ReadsFile (file : CountyFile) (lines : List (List ℕ)) (old new : Reader) : Type 0 where
  pub good : AreValidLines file lines
  pub few : length lines < 2 ^ 32
  pub known : IfSome old.left (λ bytes. AreLines bytes lines)
  pub at_end : IsAtEnd new.left
  pub reads : new.failed ≡ old.failed

-- These are the first lines of a file, read so far without a fault. No read failed; if the reader's bytes are known, the rest is left.
pub record ReadsLines (file : CountyFile) (lines : List (List ℕ)) (old new : Reader) : Type 0 where
  pub good : AreValidLines file lines
  pub known : IfKnown old.left new.left (λ bytes rest. AreFirstLines bytes lines rest)
  pub reads : new.failed ≡ old.failed

-- a file was read to its end without a fault
abbrev pub HasNoFault : CountyFile → Reader → Reader → Type 0
HasNoFault file old new = (lines : List (List ℕ)) × ReadsFile file lines old new

-- after these first lines of a file's bytes comes one more byte, which begins a line too many
abbrev pub HasMoreAfter : List (List ℕ) → List ℕ → List ℕ → Type 0
HasMoreAfter lines bytes rest = (after : List ℕ) × AreFirstLines bytes lines after × HasOneMoreByte after rest

-- After these first lines of a file's bytes comes a line with this flaw. If the line ends within 231 bytes, what follows it is left; otherwise it is
-- refused as too long, and what follows its 231st byte is left.
pub record HasFaultAfter (file : CountyFile) (flaw : LineFaultKind) (lines : List (List ℕ)) (bytes left : List ℕ) : Type 0 where
  pub after : List ℕ
  pub line : List ℕ
  pub rest : List ℕ
  pub before : AreFirstLines bytes lines after
  pub first : IsFirstLine after line rest
  pub faulty : line_fault_kind (layout file) line ≡ Some flaw
  pub leftover : ((left ≡ rest) × (length after ≤ length rest + 231)) ⊎ BeginsTooLong after left

-- after these first lines of a file's bytes a read failed in the next line
abbrev pub FailsAfter : List (List ℕ) → List ℕ → List ℕ → Type 0
FailsAfter lines bytes rest = (after : List ℕ) × AreFirstLines bytes lines after × FailsWithin (max_bytes (length lines)) after rest

-- the flaws that a line of the file can have itself: in its length, its record type, its required number, or its sequence number, if it must have one
abbrev pub IsRecordFault : CountyFile → LineFaultKind → Type 0
IsRecordFault file flaw = (flaw ≡ WrongLength) ⊎ (flaw ≡ WrongType) ⊎ (flaw ≡ (layout file).without_number)
    ⊎ (IsSome (layout file).sequence × (flaw ≡ BadSequence))

-- What holds if the line with this number, which follows these lines, has this flaw. Line numbers are below 2^32, except that a read can fail at line
-- 2^32, and that a line too many has this number. If the reader's bytes are known, they contain the line, and nothing after the fault was read. A
-- read failed if and only if that is the flaw.
abbrev pub IsFaultAfter : CountyFile → LineFaultKind → ℕ → List (List ℕ) → Reader → Reader → Type 0
IsFaultAfter file Read number lines old new =
    (number ≤ 2 ^ 32) × IfKnown old.left new.left (FailsAfter lines) × (new.failed ≢ old.failed)
IsFaultAfter file TooManyLines number lines old new =
    (number ≡ 2 ^ 32) × IfKnown old.left new.left (HasMoreAfter lines) × (new.failed ≡ old.failed)
IsFaultAfter file flaw number lines old new =
    (number < 2 ^ 32) × IsRecordFault file flaw × IfKnown old.left new.left (HasFaultAfter file flaw lines) × (new.failed ≡ old.failed)

-- the first fault of a file is in a line itself, after these lines without a fault
pub record IsFirstFault (file : CountyFile) (fault : LineFault) (lines : List (List ℕ)) (old new : Reader) : Type 0 where
  pub good : AreValidLines file lines
  pub counted : fault.line ≡ length lines + 1
  pub follows : IsFaultAfter file fault.flaw fault.line lines old new

-- The first fault of a file is that with the line of this number the lines break a rule. The lines before it have no fault, and it is good itself. If
-- the reader's bytes are known, they begin with these lines, and the rest is left.
pub record IsFirstToBreak (file : CountyFile) (Breaks : List (List ℕ) → Type 0) (number : ℕ) (old new : Reader) : Type 0 where
  pub lines : List (List ℕ)
  pub line : List ℕ
  pub good : AreValidLines file lines
  pub line_good : IsValidLine (layout file) line
  pub breaks : Breaks (lines ++ line ∷ [])
  pub counted : number ≡ length lines + 1
  pub small : number < 2 ^ 32
  pub known : IfKnown old.left new.left (λ bytes rest. AreFirstLines bytes (lines ++ line ∷ []) rest)
  pub reads : new.failed ≡ old.failed

-- the line with this number is one too many for its TLID
abbrev pub IsOneTooMany : CountyFile → ℕ → Reader → Reader → Type 0
IsOneTooMany file number old new = IsFirstToBreak file (λ lines. ¬ IsWithinLimits file lines) number old new

-- the line with this number isn't too many for its TLID, but an earlier one has its TLID and its sequence number
abbrev pub IsFirstRepeat : CountyFile → ℕ → Reader → Reader → Type 0
IsFirstRepeat file number old new =
    IsFirstToBreak file (λ lines. IsWithinLimits file lines × ¬ HasDistinctSequences file lines) number old new

-- why a file can't be loaded: this is its first fault, or memory ran out and no read failed
abbrev pub IsFileFault : CountyFile → LoadFault → Reader → Reader → Type 0
IsFileFault file (Line of_file fault) old new = (of_file ≡ file) × (lines : List (List ℕ)) × IsFirstFault file fault lines old new
IsFileFault file (TooManyNames line) old new = (file ≡ Rt4) × IsOneTooMany file line old new
IsFileFault file (TooManyRanges line) old new = (file ≡ Rt6) × IsOneTooMany file line old new
IsFileFault file (RepeatedSequence line) old new = (file ≡ Rt2) × IsFirstRepeat file line old new
IsFileFault file (TooManyPoints line) old new = (file ≡ Rt2) × IsOneTooMany file line old new
IsFileFault file Memory old new = new.failed ≡ old.failed

-- the readers of the files that are joined to the type 1 file
pub record Readers : Type 0 where
  pub rt4 : Reader
  pub rt5 : Reader
  pub rt6 : Reader

-- their values
abbrev pub readers : {R : Type 0} → (R → Reader) → R → R → R → Readers
readers reader rt4 rt5 rt6 = record { rt4 = reader rt4; rt5 = reader rt5; rt6 = reader rt6 }

-- the files of types 4, 5 and 6 were read to their ends without a fault, and contain these lines
pub record ReadsJoined (lines : JoinedLines) (old new : Readers) : Type 0 where
  pub rt4 : ReadsFile Rt4 lines.rt4 old.rt4 new.rt4
  pub rt5 : ReadsFile Rt5 lines.rt5 old.rt5 new.rt5
  pub rt6 : ReadsFile Rt6 lines.rt6 old.rt6 new.rt6

-- these files were read to their ends without a fault
abbrev pub AreFaultless : Readers → Readers → Type 0
AreFaultless old new = (lines : JoinedLines) × ReadsJoined lines old new

-- why these files can't be loaded: they are read in this order, each to its end, up to the first one with a fault
pub data IsJoinedFault (fault : LoadFault) (old new : Readers) : Type 0 where
  in_rt4 : IsFileFault Rt4 fault old.rt4 new.rt4 → new.rt5 ≡ old.rt5 → new.rt6 ≡ old.rt6 → IsJoinedFault fault old new
  in_rt5 : HasNoFault Rt4 old.rt4 new.rt4 → IsFileFault Rt5 fault old.rt5 new.rt5 → new.rt6 ≡ old.rt6 → IsJoinedFault fault old new
  in_rt6 : HasNoFault Rt4 old.rt4 new.rt4 → HasNoFault Rt5 old.rt5 new.rt5 → IsFileFault Rt6 fault old.rt6 new.rt6 → IsJoinedFault fault old new
