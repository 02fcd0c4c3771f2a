-- An index of what is joined to type 1 lines, described by the lines of types 4, 5 and 6 that it was built from.
use Rattle.std.specs.Prelude.{◌≡◌, ◌⊎◌, ℕ, List, [], Option, Some, None, Result, Ok, Err}
use Rattle.std.specs.List.{flat_map}
use Rattle.counted_io.specs.ReaderWriter.{Reader}
use Rattle.tl_records.specs.Lines.{LineParts, IsLineRead}
use Rattle.tl_records.specs.Records.{IsValidLine, IsLineFault}
use Rattle.tl_records.specs.declared.fault.LineFault.{LineFault}
use Rattle.tl_segments.specs.CountyFile.{layout}
use Rattle.tl_segments.specs.FullName.{FullNameFields}
use Rattle.tl_segments.specs.Joining.{JoinedLines, segment_of}
use Rattle.tl_segments.specs.Loading.{Readers, ReadsJoined}
use Rattle.tl_segments.specs.TableContents.{HoldsFeatures, HoldsNames, HoldsRanges, list_at, names_among}
use Rattle.tl_segments.specs.Segment.{SegmentParts, HasJoined, blank_segment, line_of}
use Rattle.tl_segments.specs.declared.fault.CountyFile.TheVariants.{Rt1}
use Rattle.tl_segments.specs.declared.fault.LoadFault.{LoadFault}
use Rattle.tl_segments.specs.declared.fault.LoadFault.TheVariants.{Line, Memory}
use Rattle.tl_segments.specs.declared.index.Index.{Index}

-- the index has what these lines have
pub record IsIndexOf {A : Type 0} (index : Index A) (lines : JoinedLines) : Type 0 where
  pub features : HoldsFeatures index.features lines.rt4
  pub names : HoldsNames index.names lines.rt5
  pub ranges : HoldsRanges index.ranges lines.rt6

-- the three files were read to their ends without a fault, and the index has what their lines have
pub record LoadsIndex {A : Type 0} (index : Index A) (old new : Readers) : Type 0 where
  pub lines : JoinedLines
  pub index_of : IsIndexOf index lines
  pub reads : ReadsJoined lines old new

-- the alternate names that the index has for a TLID
abbrev pub names_in : {A : Type 0} → Index A → ℕ → List FullNameFields
names_in index tlid = flat_map (names_among index.names) (list_at index.features tlid)

-- the next line of a type 1 file was read, and is good
abbrev pub ReadsValidLine : LineParts → LineParts → Reader → Reader → Type 0
ReadsValidLine line line' old new = IsLineRead line line' old new (Ok (Some tt)) × IsValidLine (layout Rt1) line'.bytes

-- the next line of a type 1 file can't be read, or was read and has this fault
abbrev pub IsNextFault : LineFault → LineParts → LineParts → Reader → Reader → Type 0
IsNextFault fault line line' old new =
    IsLineRead line line' old new (Err fault) ⊎ (IsLineRead line line' old new (Ok (Some tt)) × IsLineFault (layout Rt1) line' fault)

-- the effect of reading and checking the next type 1 line on the line and the reader
abbrev pub IsRt1Read : LineParts → LineParts → Reader → Reader → Result (Option (Unit {0})) LineFault → Type 0
IsRt1Read line line' old new (Ok (Some done)) = ReadsValidLine line line' old new
IsRt1Read line line' old new (Ok None) = IsLineRead line line' old new (Ok None)
IsRt1Read line line' old new (Err fault) = IsNextFault fault line line' old new

-- a segment, and the number of the line that was read into it
pub record NumberedSegment : Type 0 where
  pub number : ℕ
  pub segment : SegmentParts

-- The same for a segment that the line is read into. At the end of the input and after a fault the segment is blank, whatever bytes the line had.
abbrev pub IsRecordRead : LineParts → NumberedSegment → Reader → Reader → Result (Option (Unit {0})) LineFault → Type 0
IsRecordRead line read old new (Ok (Some done)) =
    IsRt1Read line (line_of read.number read.segment) old new (Ok (Some done)) × (read.segment ≡ record
    { bytes = read.segment.bytes; names = []; affixes = []; ranges = [] })
IsRecordRead line read old new result =
    ((bytes : List ℕ) × IsRt1Read line (record { number = read.number; bytes = bytes }) old new result) × (read.segment ≡ blank_segment)

-- The effect of reading the next segment. Either the line was read and is good, and the segment has what the index's lines give it; or, at the end
-- of the input or after a fault, the segment is blank. Memory runs out only if something is joined to the line.
abbrev pub IsSegmentRead : {A : Type 0} → Index A → LineParts → NumberedSegment → Reader → Reader → Result (Option (Unit {0})) LoadFault → Type 0
IsSegmentRead index line read old new (Ok (Some done)) =
    ReadsValidLine line (line_of read.number read.segment) old new
    × ((lines : JoinedLines) → IsIndexOf index lines → read.segment ≡ segment_of lines read.segment.bytes)
IsSegmentRead index line read old new (Ok None) =
    ((bytes : List ℕ) × IsLineRead line (record { number = read.number; bytes = bytes }) old new (Ok None)) × (read.segment ≡ blank_segment)
IsSegmentRead index line read old new (Err (Line file fault)) =
    (file ≡ Rt1) × ((bytes : List ℕ) × IsNextFault fault line (record { number = read.number; bytes = bytes }) old new)
    × (read.segment ≡ blank_segment)
IsSegmentRead index line read old new (Err Memory) =
    ReadsValidLine line (line_of read.number read.segment) old new
    × ((lines : JoinedLines) → IsIndexOf index lines → HasJoined (segment_of lines read.segment.bytes))
IsSegmentRead index line read old new (Err fault) = ⊥
