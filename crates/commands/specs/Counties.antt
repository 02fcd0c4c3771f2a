-- The counties of a list of codes, loaded in order from their files in a folder, with their shapes if these are wanted.
use Rattle.std.specs.Prelude.{◌≡◌, ℕ, Bool, List, ◌∷◌, ◌++◌, Option, ⊤}
use Rattle.std.specs.List.{AllZip}
use Rattle.tl_segments.specs.County.{CountyParts, CountyReaders, IsCountyFault, LoadsCounty}
use Rattle.refusals.specs.Refusal.{RefusalParts}
use Rattle.refusals.specs.declared.refusal.Position.TheVariants.{FileLine}
use Rattle.tl_segments.specs.CountyFile.{record_type}
use Rattle.tl_segments.specs.LoadFault as load_fault
use Rattle.tl_segments.specs.declared.fault.CountyFile.{CountyFile as CountyFileType}
use Rattle.tl_segments.specs.declared.fault.LoadFault.{LoadFault}
use Rattle.named_files.specs.County.{HoldCounty, IsFileOfCounty, file_name}
use Rattle.commands.specs.Failure.{refusal_status}
use Rattle.named_files.specs.Files.{Disk, FailsToOpen, HasFailedRead, OpenResults}
use Rattle.commands.specs.declared.failure.Failure.{Failure}
use Rattle.commands.specs.declared.failure.Failure.TheVariants.{Refusal, Memory, CountyFile}

-- the county of this code is loaded from its files in the folder, whose bytes agree with what is known of them
pub record IsCountyOf (shapes : Bool) (known : List ℕ → Option (List ℕ)) (folder code : List ℕ) (county : CountyParts) : Type 0 where
  pub old : CountyReaders
  pub hold : HoldCounty shapes known folder code old
  pub new : CountyReaders
  pub loads : LoadsCounty county old new

-- one county for each code, in order
abbrev pub AreCountiesOf : Bool → (List ℕ → Option (List ℕ)) → List ℕ → List (List ℕ) → List CountyParts → Type 0
AreCountiesOf shapes known folder codes counties = AllZip (IsCountyOf shapes known folder) codes counties

-- the county of this code is refused with this refusal, for its files' first fault
pub record IsRefusedCounty (shapes : Bool) (known : List ℕ → Option (List ℕ)) (folder code : List ℕ) (refusal : RefusalParts) : Type 0 where
  pub old : CountyReaders
  pub hold : HoldCounty shapes known folder code old
  pub new : CountyReaders
  pub fault : LoadFault
  pub is_fault : IsCountyFault fault old new
  pub is_refusal : refusal ≡ load_fault.refusal fault

-- the county of one of the codes is refused with this refusal, and those before it are loaded
pub record HaveRefusedCounty (shapes : Bool) (known : List ℕ → Option (List ℕ)) (folder : List ℕ) (codes : List (List ℕ))
    (refusal : RefusalParts) : Type 0 where
  pub before : List (List ℕ)
  pub code : List ℕ
  pub following : List (List ℕ)
  pub are_codes : codes ≡ before ++ code ∷ following
  pub counties : List CountyParts
  pub loaded : AreCountiesOf shapes known folder before counties
  pub refused : IsRefusedCounty shapes known folder code refusal

-- a file of this name belongs to one of the codes, as `IsFile` describes
pub record IsFileOfOne (IsFile : List ℕ → List ℕ → Type 0) (codes : List (List ℕ)) (name : List ℕ) : Type 0 where
  pub before : List (List ℕ)
  pub code : List ℕ
  pub following : List (List ℕ)
  pub are_codes : codes ≡ before ++ code ∷ following
  pub is_file : IsFile code name

-- the county of one of the codes is loaded from a file of this name
abbrev pub IsFileOfCounties : Bool → List ℕ → List (List ℕ) → List ℕ → Type 0
IsFileOfCounties shapes folder codes name = IsFileOfOne (IsFileOfCounty shapes folder) codes name

-- the refusal is for a line of this file of a county; its text shows the record type and the line
abbrev pub IsInFile : CountyFileType → RefusalParts → Type 0
IsInFile file refusal = (line : ℕ) × (refusal.position ≡ FileLine (record_type file) line)

-- this is the name of the file that the refusal is for, in the county of this code
abbrev pub IsRefusedFile : List ℕ → List ℕ → RefusalParts → List ℕ → Type 0
IsRefusedFile folder code refusal name = (file : CountyFileType) × IsInFile file refusal × (name ≡ file_name folder code file)

-- the same, in the county of one of the codes
abbrev pub IsRefusedFileOfOne : List ℕ → List (List ℕ) → RefusalParts → List ℕ → Type 0
IsRefusedFileOfOne folder codes refusal name = IsFileOfOne (λ code. IsRefusedFile folder code refusal) codes name

-- a read of a file with such a name failed
abbrev pub FailsToRead : (List ℕ → Type 0) → Disk → Disk → Type 0
FailsToRead IsFile disk disk' = (name : List ℕ) × IsFile name × HasFailedRead name disk disk'

-- Why counties can't be loaded: one is refused with this refusal, and if the status is 3, a read failed of the file that the refusal is for, as
-- `IsFile` describes; or one of their files can't be opened; or an allocation fails.
abbrev pub IsLoadFailure : {R : Type 0} → OpenResults R → (RefusalParts → Type 0) → (RefusalParts → List ℕ → Type 0) → Disk → Disk → Failure
    → Type 0
IsLoadFailure opens IsRefusedSo IsFile disk disk' (Refusal refusal) =
    IsRefusedSo refusal × (refusal_status refusal ≡ 3 → FailsToRead (IsFile refusal) disk disk')
IsLoadFailure opens IsRefusedSo IsFile disk disk' (CountyFile folder code file error) =
    FailsToOpen (opens (file_name folder.now code.now file)) error disk disk'
IsLoadFailure opens IsRefusedSo IsFile disk disk' Memory = ⊤
IsLoadFailure opens IsRefusedSo IsFile disk disk' failure = ⊥
