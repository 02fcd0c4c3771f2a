-- The files of a county in a folder, by name, and the bytes that their readers hold.
use Rattle.std.specs.Prelude.{◌≡◌, ℕ, Bool, true, false, IsTrue, List, ◌++◌, codes, Option, Some, None, ⊤}
use Rattle.counted_io.specs.ReaderWriter.{Reader}
use Rattle.tl_segments.specs.County.{CountyReaders, SegmentReaders}
use Rattle.tl_segments.specs.Loading.{Readers}
use Rattle.tl_segments.specs.declared.county_files.CountyFiles.{CountyFiles}
use Rattle.tl_segments.specs.declared.fault.CountyFile.{CountyFile}
use Rattle.tl_segments.specs.declared.fault.CountyFile.TheVariants.{Rt1, Rt2, Rt4, Rt5, Rt6}
use Rattle.named_files.specs.Files.{CountsClose, IsNotMissing, IsOpenFault, IsUnread, KeepsCounts, OpenResults, ReadCounts}
use Rattle.named_files.specs.declared.county.CountyFileFault.{CountyFileFault}
use Rattle.named_files.specs.declared.open_file.FileName.{FileName}
use Rattle.named_files.specs.declared.open_file.FileName.TheVariants.{Path, OfCounty}
use Rattle.named_files.specs.declared.files.Input.{Input}
use Rattle.named_files.specs.declared.files.Input.TheVariants as input

-- the extension of a county's file
abbrev pub name_end : CountyFile → List ℕ
name_end Rt1 = codes ".RT1"
name_end Rt2 = codes ".RT2"
name_end Rt4 = codes ".RT4"
name_end Rt5 = codes ".RT5"
name_end Rt6 = codes ".RT6"

-- the name of a county's file in the folder of the data (TIGER/Line 2006: `TGR`, the state, the county, and the record type)
abbrev pub file_name : List ℕ → List ℕ → CountyFile → List ℕ
file_name folder code file = folder ++ codes "/TGR" ++ code ++ name_end file

-- the path of the file of a name
abbrev pub path_of : FileName → List ℕ
path_of (Path path) = path.now
path_of (OfCounty folder code file) = file_name folder.now code.now file

-- a county is loaded from this file: from that of type 2 only if shapes are wanted
abbrev pub IsLoaded : Bool → CountyFile → Type 0
IsLoaded shapes Rt2 = IsTrue shapes
IsLoaded shapes file = ⊤

-- the file isn't taken for an empty one if it doesn't exist
abbrev pub MustExist : CountyFile → Type 0
MustExist Rt1 = ⊤
MustExist Rt2 = ⊤
MustExist file = ⊥

-- this is the name of one of the files in the folder that the county is loaded from
abbrev pub IsFileOfCounty : Bool → List ℕ → List ℕ → List ℕ → Type 0
IsFileOfCounty shapes folder code name = (file : CountyFile) × IsLoaded shapes file × (name ≡ file_name folder code file)

-- The readers hold the files of types 4, 5 and 6 of a county in the folder; below, those that its segments are made from, and all of its files, with
-- that of type 2 if shapes are wanted.
pub record HoldJoined (known : List ℕ → Option (List ℕ)) (folder code : List ℕ) (readers : Readers) : Type 0 where
  pub rt4 : IsUnread (known (file_name folder code Rt4)) readers.rt4
  pub rt5 : IsUnread (known (file_name folder code Rt5)) readers.rt5
  pub rt6 : IsUnread (known (file_name folder code Rt6)) readers.rt6

pub record HoldSegments (known : List ℕ → Option (List ℕ)) (folder code : List ℕ) (readers : SegmentReaders) : Type 0 where
  pub rt1 : IsUnread (known (file_name folder code Rt1)) readers.rt1
  pub joined : HoldJoined known folder code readers.joined

abbrev pub HoldsShapes : Bool → Option (List ℕ) → Option Reader → Type 0
HoldsShapes true known (Some reader) = IsUnread known reader
HoldsShapes false known None = ⊤
HoldsShapes shapes known rt2 = ⊥

pub record HoldCounty (shapes : Bool) (known : List ℕ → Option (List ℕ)) (folder code : List ℕ) (readers : CountyReaders) : Type 0 where
  pub segments : HoldSegments known folder code readers.segments
  pub rt2 : HoldsShapes shapes (known (file_name folder code Rt2)) readers.shapes

-- the inputs have the files that must exist
abbrev pub IsOpened : {R : Type 0} → Input R → Type 0
IsOpened (input.Opened reader) = ⊤
IsOpened input.Nothing = ⊥

abbrev pub IsOpenedIfAny : {R : Type 0} → Option (Input R) → Type 0
IsOpenedIfAny (Some input) = IsOpened input
IsOpenedIfAny None = ⊤

abbrev pub AreOpened : {R : Type 0} → CountyFiles (Input R) → Type 0
AreOpened inputs = IsOpened inputs.rt1 × IsOpenedIfAny inputs.shapes

-- what closing the readers of the county of this code counts, one after the other, each by the name of its file
pub record ClosesSegments (folder code : List ℕ) (readers : SegmentReaders) (failed failed' : ReadCounts) : Type 0 where
  pub after_rt1 : ReadCounts
  pub rt1 : CountsClose (file_name folder code Rt1) readers.rt1.failed failed after_rt1
  pub after_rt4 : ReadCounts
  pub rt4 : CountsClose (file_name folder code Rt4) readers.joined.rt4.failed after_rt1 after_rt4
  pub after_rt5 : ReadCounts
  pub rt5 : CountsClose (file_name folder code Rt5) readers.joined.rt5.failed after_rt4 after_rt5
  pub rt6 : CountsClose (file_name folder code Rt6) readers.joined.rt6.failed after_rt5 failed'

abbrev pub ClosesShapes : List ℕ → Option Reader → ReadCounts → ReadCounts → Type 0
ClosesShapes name (Some reader) failed failed' = CountsClose name reader.failed failed failed'
ClosesShapes name None failed failed' = KeepsCounts failed failed'

pub record ClosesCounty (folder code : List ℕ) (readers : CountyReaders) (failed failed' : ReadCounts) : Type 0 where
  pub between : ReadCounts
  pub segments : ClosesSegments folder code readers.segments failed between
  pub rt2 : ClosesShapes (file_name folder code Rt2) readers.shapes between failed'

-- Why this file of a county can't be opened: an open of it failed with this error, or memory ran out. Unless the file must exist, it isn't refused for
-- not existing.
pub record IsFileOpenFault {R : Type 0} (opens : OpenResults R) (folder code : List ℕ) (file : CountyFile) (fault : CountyFileFault)
    : Type 0 where
  pub of_file : fault.file ≡ file
  pub is_fault : IsOpenFault (opens (file_name folder code file)) fault.fault
  pub exists : ¬ MustExist file → IsNotMissing fault.fault

-- why one of the files that a county is loaded from can't be opened
abbrev pub IsCountyOpenFault : {R : Type 0} → Bool → OpenResults R → List ℕ → List ℕ → CountyFileFault → Type 0
IsCountyOpenFault shapes opens folder code fault = IsLoaded shapes fault.file × IsFileOpenFault opens folder code fault.file fault
