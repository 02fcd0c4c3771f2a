-- What an extract in a format guarantees, of segments or of a county's files: one case for each kind of outcome. The extract in rows is the instance
-- at `row_of`.
use Rattle.std.specs.Prelude.{◌≡◌, ◌≢◌, ◌⊎◌, ℕ, List, [], ◌∷◌, ◌++◌, Result, Ok, Err}
use Rattle.std.specs.Io.KnownBytes.{Appends}
use Rattle.counted_io.specs.ReaderWriter.{Writer}
use Rattle.counted_io.specs.declared.writing.WriteFault.{WriteFault}
use Rattle.tl_records.specs.declared.fault.LineFault.{LineFault}
use Rattle.tl_segments.specs.County.{LoadsSegments, SegmentReaders}
use Rattle.tl_segments.specs.Indexing.{IsIndexOf}
use Rattle.tl_segments.specs.Joining.{JoinedLines, segment_of, segments_of}
use Rattle.tl_segments.specs.Loading.{IsFirstFault, IsJoinedFault, Readers, ReadsJoined, ReadsLines}
use Rattle.tl_segments.specs.Segment.{HasJoined, SegmentParts}
use Rattle.tl_segments.specs.declared.fault.CountyFile.TheVariants.{Rt1}
use Rattle.tl_segments.specs.declared.fault.LoadFault.{LoadFault}
use Rattle.tl_segments.specs.declared.fault.LoadFault.TheVariants as load_fault
use Rattle.tl_segments.specs.declared.index.Index.{Index}
use Rattle.bpf_insn.specs.declared.instruction.Insn.{Insn}
use Rattle.bpf_meaning.specs.Extract.{IsExtractIn, TextFormat, row_of}
use Rattle.bpf_meaning.specs.Run.{Answers}
use Rattle.bpf_program.specs.Program.{IsSafeProgram, IsProgramFault}
use Rattle.extract.specs.Rows.{WritesIfChosen}
use Rattle.extract.specs.declared.fault.ExtractFault.{ExtractFault}
use Rattle.extract.specs.declared.fault.ExtractFault.TheVariants.{Program, Load, Write, Memory}
use Rattle.bpf_program.specs.declared.program.ProgramFault.{ProgramFault}
use Rattle.bpf_program.specs.declared.program.ProgramFault.TheVariants as program_fault

-- The county's files were all read to their ends. Exactly the texts of the segments that the code selects were appended to the writer, in file order
-- and with their scores, and `count` is their number. Nothing failed.
pub record IsExtractedIn (text_of : TextFormat) (code : List Insn) (count : ℕ) (old new : SegmentReaders) (out out' : Writer) : Type 0 where
  pub segments : List SegmentParts
  pub loads : LoadsSegments segments old new
  pub text : List ℕ
  pub is_extract : IsExtractIn text_of code segments text count
  pub written : Appends out.held out'.held text
  pub counts : out'.counts ≡ out.counts

-- Whatever the code answers on the segment of a type 1 line with the first lines joined to it, it also answers with the second lines joined, and the
-- segment's text is the same. The second lines join something wherever the first do.
pub record ExtractsAlike (text_of : TextFormat) (code : List Insn) (own joined : JoinedLines) : Type 0 where
  pub same : (line : List ℕ) (answer score : ℕ)
      → Answers code (segment_of own line) answer score → Answers code (segment_of joined line) answer score
  pub text : (line : List ℕ) (score : ℕ) → text_of score (segment_of own line) ≡ text_of score (segment_of joined line)
  pub more : (line : List ℕ) → HasJoined (segment_of own line) → HasJoined (segment_of joined line)

-- The files of types 4, 5 and 6 were read to their ends without a fault. With the index, the code gives the same answers and the segments have the
-- same texts as with these files.
pub record ServesExtract {A : Type 0} (text_of : TextFormat) (code : List Insn) (index : Index A) (old new : Readers) : Type 0 where
  pub own : JoinedLines
  pub index_of : IsIndexOf index own
  pub joined : JoinedLines
  pub reads : ReadsJoined joined old new
  pub alike : ExtractsAlike text_of code own joined

-- The texts of those of these segments that the code selects were appended to the writer, in order and with their scores. No write failed.
pub record WritesSelected (text_of : TextFormat) (code : List Insn) (segments : List SegmentParts) (out out' : Writer) : Type 0 where
  pub text : List ℕ
  pub count : ℕ
  pub is_extract : IsExtractIn text_of code segments text count
  pub written : Appends out.held out'.held text
  pub counts : out'.counts ≡ out.counts

-- A write failed. The complete extract of the segments before this one was written, then a beginning of its text.
pub record StopsAtSegment (text_of : TextFormat) (code : List Insn) (segments : List SegmentParts) (fault : WriteFault) (out out' : Writer) : Type 0 where
  pub front : List SegmentParts
  pub segment : SegmentParts
  pub back : List SegmentParts
  pub are_all : segments ≡ front ++ segment ∷ back
  pub between : Writer
  pub before : WritesSelected text_of code front out between
  pub cut_short : WritesIfChosen text_of code segment (Err fault) between out'

-- the effect of writing the selected ones of segments on the writer
abbrev pub WritesSegments : TextFormat → List Insn → List SegmentParts → Result (Unit {0}) WriteFault → Writer → Writer → Type 0
WritesSegments text_of code segments (Ok done) out out' = WritesSelected text_of code segments out out'
WritesSegments text_of code segments (Err fault) out out' = StopsAtSegment text_of code segments fault out out'

-- the complete extract of these type 1 lines, with the others joined to them, was written
abbrev pub HasWrittenIn : TextFormat → List Insn → JoinedLines → List (List ℕ) → Writer → Writer → Type 0
HasWrittenIn text_of code joined lines out out' = WritesSelected text_of code (segments_of joined lines) out out'

-- A file is refused because of the first fault in the county's files, in the order in which they are read. If the file is of type 4, 5 or 6, nothing
-- was read of type 1 and nothing was written. If it is of type 1, the complete extract of the good lines before the fault was written.
pub data IsLoadRefusalIn (text_of : TextFormat) (code : List Insn) (fault : LoadFault) (old new : SegmentReaders) (out out' : Writer) : Type 0 where
  before_rt1 : fault ≢ load_fault.Memory → IsJoinedFault fault old.joined new.joined → new.rt1 ≡ old.rt1 → out' ≡ out
      → IsLoadRefusalIn text_of code fault old new out out'
  in_rt1 : (joined : JoinedLines) (lines : List (List ℕ)) (line : LineFault) → fault ≡ load_fault.Line Rt1 line
      → ReadsJoined joined old.joined new.joined → IsFirstFault Rt1 line lines old.rt1 new.rt1
      → HasWrittenIn text_of code joined lines out out' → IsLoadRefusalIn text_of code fault old new out out'

-- A write failed. The complete extract of some good lines was written, then a beginning of the text of the next line, which is also good. Nothing was
-- read after that line, and no read failed.
pub record IsWriteRefusalIn (text_of : TextFormat) (code : List Insn) (fault : WriteFault) (old new : SegmentReaders) (out out' : Writer) : Type 0 where
  pub joined : JoinedLines
  pub reads_joined : ReadsJoined joined old.joined new.joined
  pub lines : List (List ℕ)
  pub line : List ℕ
  pub reads : ReadsLines Rt1 (lines ++ line ∷ []) old.rt1 new.rt1
  pub between : Writer
  pub before : HasWrittenIn text_of code joined lines out between
  pub cut_short : WritesIfChosen text_of code (segment_of joined line) (Err fault) between out'

-- Memory runs out for the segment of a good type 1 line that has something joined to it. The complete extract of the good lines before it was
-- written, and nothing was read after it.
pub record StopsAtLineIn (text_of : TextFormat) (code : List Insn) (old new : SegmentReaders) (out out' : Writer) : Type 0 where
  pub joined : JoinedLines
  pub reads_joined : ReadsJoined joined old.joined new.joined
  pub lines : List (List ℕ)
  pub line : List ℕ
  pub reads : ReadsLines Rt1 (lines ++ line ∷ []) old.rt1 new.rt1
  pub more : HasJoined (segment_of joined line)
  pub before : HasWrittenIn text_of code joined lines out out'

-- no read of any of the files failed
pub record AreUnfailed (old new : SegmentReaders) : Type 0 where
  pub rt1 : new.rt1.failed ≡ old.rt1.failed
  pub rt4 : new.joined.rt4.failed ≡ old.joined.rt4.failed
  pub rt5 : new.joined.rt5.failed ≡ old.joined.rt5.failed
  pub rt6 : new.joined.rt6.failed ≡ old.joined.rt6.failed

-- Memory runs out. Either nothing was read of type 1 and nothing was written, or the extract stops at a type 1 line. No read or write failed.
pub record IsMemoryRefusalIn (text_of : TextFormat) (code : List Insn) (old new : SegmentReaders) (out out' : Writer) : Type 0 where
  pub written : (new.rt1 ≡ old.rt1) × (out' ≡ out) ⊎ StopsAtLineIn text_of code old new out out'
  pub counts : out'.counts ≡ out.counts
  pub reads : AreUnfailed old new

-- the effect of an extract by this code on the readers of the county's files and on the writer, by outcome
abbrev pub IsOutcomeOfCodeIn : TextFormat → List Insn → Result ℕ ExtractFault → SegmentReaders → SegmentReaders → Writer → Writer → Type 0
IsOutcomeOfCodeIn text_of code (Ok count) old new out out' = IsExtractedIn text_of code count old new out out'
IsOutcomeOfCodeIn text_of code (Err (Program fault)) old new out out' = ⊥
IsOutcomeOfCodeIn text_of code (Err (Load fault)) old new out out' = IsLoadRefusalIn text_of code fault old new out out'
IsOutcomeOfCodeIn text_of code (Err (Write fault)) old new out out' = IsWriteRefusalIn text_of code fault old new out out'
IsOutcomeOfCodeIn text_of code (Err Memory) old new out out' = IsMemoryRefusalIn text_of code old new out out'

-- The program is refused, and nothing was read or written.
pub record IsProgramRefusal (program : List ℕ) (fault : ProgramFault) (old new : SegmentReaders) (out out' : Writer) : Type 0 where
  pub first : IsProgramFault program fault
  pub has_number : fault ≢ program_fault.Memory
  pub unread : new ≡ old
  pub unwritten : out' ≡ out

-- the program has code that is safe, and this holds of the code
abbrev pub HasSafeCode : List ℕ → (List Insn → Type 0) → Type 0
HasSafeCode program Holds = (code : List Insn) × IsSafeProgram program code × Holds code

-- the effect of an extract by a program: it is refused, or memory runs out before anything is read, or the extract is that of its code
abbrev pub IsOutcomeIn : TextFormat → List ℕ → Result ℕ ExtractFault → SegmentReaders → SegmentReaders → Writer → Writer → Type 0
IsOutcomeIn text_of program (Err (Program fault)) old new out out' = IsProgramRefusal program fault old new out out'
IsOutcomeIn text_of program (Err Memory) old new out out' =
    ((new ≡ old) × (out' ≡ out)) ⊎ HasSafeCode program (λ code. IsMemoryRefusalIn text_of code old new out out')
IsOutcomeIn text_of program result old new out out' =
    HasSafeCode program (λ code. IsOutcomeOfCodeIn text_of code result old new out out')

-- The extract in rows

abbrev pub IsExtracted : List Insn → ℕ → SegmentReaders → SegmentReaders → Writer → Writer → Type 0
IsExtracted code rows old new out out' = IsExtractedIn row_of code rows old new out out'

abbrev pub IsOutcome : List ℕ → Result ℕ ExtractFault → SegmentReaders → SegmentReaders → Writer → Writer → Type 0
IsOutcome program result old new out out' = IsOutcomeIn row_of program result old new out out'
