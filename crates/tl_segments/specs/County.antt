-- A county: the segments of its files of types 1, 4, 5 and 6, and their shapes, from its file of type 2.
use Rattle.std.specs.Prelude.{◌≡◌, ℕ, List, length, map, option_map, All, Option, Some, IsSome}
use Rattle.counted_io.specs.ReaderWriter.{Reader}
use Rattle.tl_fields.specs.Number.{number_of}
use Rattle.tl_records.specs.Layout.{field_at}
use Rattle.tl_records.specs.declared.layout.TheConstants.Type1.{TLID}
use Rattle.tl_segments.specs.Indexing.{IsIndexOf}
use Rattle.tl_segments.specs.Joining.{JoinedLines, segments_of}
use Rattle.tl_segments.specs.Loading.{Readers, readers, ReadsFile, ReadsJoined, IsFileFault, IsJoinedFault}
use Rattle.tl_segments.specs.Segment.{SegmentParts}
use Rattle.tl_segments.specs.Shape.{ShapeTable}
use Rattle.tl_segments.specs.Shapes.{IsShapesFault, LoadsShapes, ShapesParts, table_of}
use Rattle.tl_segments.specs.declared.county_files.CountyFiles.{CountyFiles}
use Rattle.tl_segments.specs.declared.county_files.JoinedFiles.{JoinedFiles}
use Rattle.tl_segments.specs.declared.fault.CountyFile.TheVariants.{Rt1}
use Rattle.tl_segments.specs.declared.fault.LoadFault.{LoadFault}
use Rattle.tl_segments.specs.declared.index.Index.{Index}

-- the contents of a county, with its shapes if its type 2 file was read
pub record CountyParts : Type 0 where
  pub segments : List SegmentParts
  pub shapes : Option ShapesParts

-- the shape of each of its TLIDs: without a type 2 file, all segments are straight
abbrev pub shapes_in : CountyParts → ShapeTable
shapes_in county = table_of county.shapes

-- the number of a segment's TLID, if it has one
abbrev pub tlid_of : SegmentParts → Option ℕ
tlid_of segment = number_of (field_at TLID segment.bytes)

-- the TLID of each segment has a number
abbrev pub HasTlids : List SegmentParts → Type 0
HasTlids segments = All (λ segment. IsSome (tlid_of segment)) segments

-- these are the numbers of the segments' TLIDs, in order
abbrev pub AreTlids : List ℕ → List SegmentParts → Type 0
AreTlids tlids segments = map Some tlids ≡ map tlid_of segments

-- the segments are those of these type 1 lines, one per line, with what the index joins to them, and the numbers are those of their TLIDs
pub record HoldsSegments {A : Type 0} (index : Index A) (segments : List SegmentParts) (tlids : List ℕ) (lines : List (List ℕ)) : Type 0 where
  pub joined : (joined : JoinedLines) → IsIndexOf index joined → segments ≡ segments_of joined lines
  pub counted : length segments ≡ length lines
  pub numbered : AreTlids tlids segments

-- the readers of the files that segments are made from, and those of all files of a county, with that of type 2 if there is one
pub record SegmentReaders : Type 0 where
  pub rt1 : Reader
  pub joined : Readers

pub record CountyReaders : Type 0 where
  pub segments : SegmentReaders
  pub shapes : Option Reader

-- their values
abbrev pub joined_readers : {R : Type 0} → (R → Reader) → JoinedFiles R → Readers
joined_readers reader files = readers reader files.rt4 files.rt5 files.rt6

abbrev pub segment_readers : {R : Type 0} → (R → Reader) → CountyFiles R → SegmentReaders
segment_readers reader files = record { rt1 = reader files.rt1; joined = joined_readers reader files.joined }

abbrev pub county_readers : {R : Type 0} → (R → Reader) → CountyFiles R → CountyReaders
county_readers reader files = record { segments = segment_readers reader files; shapes = option_map reader files.shapes }

-- the files of types 1, 4, 5 and 6 were read to their ends without a fault, and the segments are those of their lines
pub record LoadsSegments (segments : List SegmentParts) (old new : SegmentReaders) : Type 0 where
  pub joined : JoinedLines
  pub lines : List (List ℕ)
  pub are_segments : segments ≡ segments_of joined lines
  pub reads_joined : ReadsJoined joined old.joined new.joined
  pub rt1 : ReadsFile Rt1 lines old.rt1 new.rt1

-- all files were read to their ends without a fault, and the county has what is in them
pub record LoadsCounty (county : CountyParts) (old new : CountyReaders) : Type 0 where
  pub segments : LoadsSegments county.segments old.segments new.segments
  pub shapes : LoadsShapes (shapes_in county) old.shapes new.shapes

-- why segments can't be loaded; the type 1 file is read after the others
pub data IsSegmentsFault (fault : LoadFault) (old new : SegmentReaders) : Type 0 where
  before_rt1 : IsJoinedFault fault old.joined new.joined → new.rt1 ≡ old.rt1 → IsSegmentsFault fault old new
  in_rt1 : (lines : JoinedLines) → ReadsJoined lines old.joined new.joined → IsFileFault Rt1 fault old.rt1 new.rt1 → IsSegmentsFault fault old new

-- why a county can't be loaded; the type 2 file is read before the others
pub data IsCountyFault (fault : LoadFault) (old new : CountyReaders) : Type 0 where
  in_shapes : IsShapesFault fault old.shapes new.shapes → new.segments ≡ old.segments → IsCountyFault fault old new
  in_segments : (shapes : ShapeTable) → LoadsShapes shapes old.shapes new.shapes → IsSegmentsFault fault old.segments new.segments
      → IsCountyFault fault old new
