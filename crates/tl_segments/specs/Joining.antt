-- Street segments, joined from the lines of a county's files by TLID and by FEAT (TIGER/Line 2006, record types 1, 4, 5 and 6). Lists of lines are in
-- file order and contain only lines that are good for their record types.
use Rattle.std.specs.Prelude.{ℕ, ◌≤◌, nat_eq, Bool, List, [], ◌∷◌, length, map, filter, find, Option, Some, option_map}
use Rattle.std.specs.List.{filter_map, flat_map}
use Rattle.std.specs.Option.{option_eq, option_map_or}
use Rattle.tl_fields.specs.Number.{number_of}
use Rattle.tl_records.specs.Layout.{field_at}
use Rattle.tl_records.specs.declared.layout.TheConstants.Type4.{FEAT1, FEAT2, FEAT3, FEAT4, FEAT5}
use Rattle.tl_records.specs.declared.layout.TheConstants.Type5.{FEDIRP, FENAME, FETYPE, FEDIRS}
use Rattle.tl_records.specs.declared.layout.TheConstants.Type6.{FRADDL, TOADDL, FRADDR, TOADDR, ZIPL, ZIPR}
use Rattle.tl_segments.specs.Affixes.{Affixes}
use Rattle.tl_segments.specs.CountyFile.{layout}
use Rattle.tl_segments.specs.Segment.{SegmentParts}
use Rattle.tl_segments.specs.declared.fault.CountyFile.{CountyFile}
use Rattle.tl_segments.specs.declared.fault.CountyFile.TheVariants.{Rt1, Rt2, Rt4, Rt5, Rt6}
use Rattle.tl_segments.specs.declared.range.RangeFields.{RangeFields}
use Rattle.tl_segments.specs.declared.limits.TheConstants.{MAX_LINES_PER_TLID}

-- the lines of types 4, 5 and 6, which are joined to those of type 1
pub record JoinedLines : Type 0 where
  pub rt4 : List (List ℕ)
  pub rt5 : List (List ℕ)
  pub rt6 : List (List ℕ)

-- no lines at all
abbrev pub no_lines : JoinedLines
no_lines = record { rt4 = []; rt5 = []; rt6 = [] }

-- the number of a line of the file: its FEAT in the type 5 file, its TLID in any other
abbrev pub number_in : CountyFile → List ℕ → Option ℕ
number_in file line = number_of (field_at (layout file).number line)

abbrev pub has_number : CountyFile → ℕ → List ℕ → Bool
has_number file number line = option_eq nat_eq (number_in file line) (Some number)

-- the lines of the file that have this number
abbrev pub lines_with : CountyFile → ℕ → List (List ℕ) → List (List ℕ)
lines_with file number lines = filter (has_number file number) lines

-- the numbers of a type 4 line's FEATs in order, without those that have none
abbrev pub features_of : List ℕ → List ℕ
features_of line = filter_map (λ feat. number_of (field_at feat line)) (FEAT1 ∷ FEAT2 ∷ FEAT3 ∷ FEAT4 ∷ FEAT5 ∷ [])

-- the name of a FEAT: the FENAME of the first type 5 line that has its number, if there is one
abbrev pub feature_name : List (List ℕ) → ℕ → Option (List ℕ)
feature_name rt5 feat = option_map (field_at FENAME) (find (has_number Rt5 feat) rt5)

-- the affixes in a type 5 line
abbrev pub affixes_in : List ℕ → Affixes
affixes_in line = record { fedirp = field_at FEDIRP line; fetype = field_at FETYPE line; fedirs = field_at FEDIRS line }

-- the affixes of a FEAT, from the same line as its name: the first type 5 line that has its number
abbrev pub feature_affixes : List (List ℕ) → ℕ → Option Affixes
feature_affixes rt5 feat = option_map affixes_in (find (has_number Rt5 feat) rt5)

-- the range of a type 6 line
abbrev pub further_range : List ℕ → RangeFields
further_range line = record {
  fraddl = field_at FRADDL line;
  toaddl = field_at TOADDL line;
  fraddr = field_at FRADDR line;
  toaddr = field_at TOADDR line;
  zipl = field_at ZIPL line;
  zipr = field_at ZIPR line;
}

-- the alternate names of a TLID: the name of each FEAT in each of its type 4 lines, if the FEAT has one
abbrev pub alternate_names : JoinedLines → ℕ → List (List ℕ)
alternate_names lines tlid = filter_map (feature_name lines.rt5) (flat_map features_of (lines_with Rt4 tlid lines.rt4))

-- the affixes of these names, in the same order
abbrev pub alternate_affixes : JoinedLines → ℕ → List Affixes
alternate_affixes lines tlid = filter_map (feature_affixes lines.rt5) (flat_map features_of (lines_with Rt4 tlid lines.rt4))

-- the further ranges of a TLID: those of its type 6 lines
abbrev pub further_ranges : JoinedLines → ℕ → List RangeFields
further_ranges lines tlid = map further_range (lines_with Rt6 tlid lines.rt6)

-- the segment of a type 1 line, with what belongs to its TLID
abbrev pub segment_of : JoinedLines → List ℕ → SegmentParts
segment_of lines line = record {
  bytes = line;
  names = option_map_or (alternate_names lines) (number_in Rt1 line) [];
  affixes = option_map_or (alternate_affixes lines) (number_in Rt1 line) [];
  ranges = option_map_or (further_ranges lines) (number_in Rt1 line) [];
}

-- the segments of the four files, one for each type 1 line
abbrev pub segments_of : JoinedLines → List (List ℕ) → List SegmentParts
segments_of lines rt1 = map (segment_of lines) rt1

-- each number occurs in at most 1,000 lines of the file
abbrev pub IsWithinLineLimit : CountyFile → List (List ℕ) → Type 0
IsWithinLineLimit file lines = (number : ℕ) → length (lines_with file number lines) ≤ MAX_LINES_PER_TLID

-- the limits of a county: at most 1,000 lines of type 2, of type 4, and of type 6 per TLID, including TLIDs that no type 1 line has
abbrev pub IsWithinLimits : CountyFile → List (List ℕ) → Type 0
IsWithinLimits Rt2 lines = IsWithinLineLimit Rt2 lines
IsWithinLimits Rt4 lines = IsWithinLineLimit Rt4 lines
IsWithinLimits Rt6 lines = IsWithinLineLimit Rt6 lines
IsWithinLimits file lines = Unit {0}
