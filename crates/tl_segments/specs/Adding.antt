-- How the lines of a county's file are added to a table.
use Rattle.std.specs.Prelude.{◌≡◌, ℕ, List, [], ◌∷◌, ◌++◌, Result, Ok, Err}
use Rattle.counted_io.specs.ReaderWriter.{Reader}
use Rattle.tl_records.specs.Lines.{LineParts}
use Rattle.tl_records.specs.Records.{IsValidLine, IsLineFault}
use Rattle.tl_segments.specs.CountyFile.{layout}
use Rattle.tl_segments.specs.Joining.{IsWithinLimits}
use Rattle.tl_segments.specs.Loading.{ReadsFile}
use Rattle.tl_segments.specs.Shape.{HasDistinctSequences}
use Rattle.tl_segments.specs.declared.county_file.Addition.{Addition}
use Rattle.tl_segments.specs.declared.county_file.Addition.TheVariants.{Added, OverLimit, Repeated}
use Rattle.tl_segments.specs.declared.fault.CountyFile.{CountyFile}
use Rattle.tl_segments.specs.declared.fault.CountyFile.TheVariants.{Rt2, Rt4, Rt6}
use Rattle.tl_segments.specs.declared.fault.LoadFault.{LoadFault}
use Rattle.tl_segments.specs.declared.fault.LoadFault.TheVariants.{Line, TooManyNames, TooManyRanges, RepeatedSequence, TooManyPoints, Memory}

-- a line is good, but with it the lines exceed the limits
pub record ExceedsLimits (file : CountyFile) (lines : List (List ℕ)) (line : LineParts) : Type 0 where
  pub good : IsValidLine (layout file) line.bytes
  pub exceeds : ¬ IsWithinLimits file (lines ++ line.bytes ∷ [])

-- a line is good and not too many, but an earlier one has its TLID and its sequence number
pub record RepeatsSequence (file : CountyFile) (lines : List (List ℕ)) (line : LineParts) : Type 0 where
  pub good : IsValidLine (layout file) line.bytes
  pub within : IsWithinLimits file (lines ++ line.bytes ∷ [])
  pub repeats : ¬ HasDistinctSequences file (lines ++ line.bytes ∷ [])

-- a line is good, with it the lines are within the limits, and it repeats no sequence number
pub record IsValidNext (file : CountyFile) (lines : List (List ℕ)) (line : LineParts) : Type 0 where
  pub good : IsValidLine (layout file) line.bytes
  pub within : IsWithinLimits file (lines ++ line.bytes ∷ [])
  pub distinct : HasDistinctSequences file (lines ++ line.bytes ∷ [])

-- the line is added after these, or with it they exceed the limits or repeat a sequence number
abbrev pub IsAdded : CountyFile → List (List ℕ) → List ℕ → (List (List ℕ) → Type 0) → Addition → Type 0
IsAdded file lines line holds Added =
    IsWithinLimits file (lines ++ line ∷ []) × HasDistinctSequences file (lines ++ line ∷ []) × holds (lines ++ line ∷ [])
IsAdded file lines line holds OverLimit = ¬ IsWithinLimits file (lines ++ line ∷ [])
IsAdded file lines line holds Repeated = IsWithinLimits file (lines ++ line ∷ []) × ¬ HasDistinctSequences file (lines ++ line ∷ [])

-- the fault of a line that is one too many for its TLID; only these three files have a limit
abbrev pub too_many : CountyFile → ℕ → LoadFault
too_many Rt2 number = TooManyPoints number
too_many Rt4 number = TooManyNames number
too_many file number = TooManyRanges number

-- the line after these is added, or refused because of its fault
abbrev pub IsLineAdded : CountyFile → List (List ℕ) → LineParts → Result (Unit {0}) LoadFault → (List (List ℕ) → Type 0) → Type 0
IsLineAdded file lines line (Ok done) holds = IsValidNext file lines line × holds (lines ++ line.bytes ∷ [])
IsLineAdded file lines line (Err (Line of_file fault)) holds = (of_file ≡ file) × IsLineFault (layout file) line fault
IsLineAdded file lines line (Err (TooManyNames number)) holds = (file ≡ Rt4) × (number ≡ line.number) × ExceedsLimits file lines line
IsLineAdded file lines line (Err (TooManyRanges number)) holds = (file ≡ Rt6) × (number ≡ line.number) × ExceedsLimits file lines line
IsLineAdded file lines line (Err (RepeatedSequence number)) holds = (file ≡ Rt2) × (number ≡ line.number) × RepeatsSequence file lines line
IsLineAdded file lines line (Err (TooManyPoints number)) holds = (file ≡ Rt2) × (number ≡ line.number) × ExceedsLimits file lines line
IsLineAdded file lines line (Err Memory) holds = Unit {0}

-- a file was read to its end without a fault, and the table holds its lines
abbrev pub HoldsFile : CountyFile → (List (List ℕ) → Type 0) → Reader → Reader → Type 0
HoldsFile file holds old new = (lines : List (List ℕ)) × holds lines × ReadsFile file lines old new
