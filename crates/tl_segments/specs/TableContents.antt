-- Tables of the contents of a county's lines, by number.
use Rattle.std.specs.Prelude.{◌≡◌, ℕ, ◌+◌, ◌<◌, ◌≤◌, cond, if◌then◌else◌, ◌-◌, nat_eq, nat_le, List, [], ◌∷◌, ◌++◌, length, map, slice_get, Option, Some, None, unwrap_or, option_and_then}
use Rattle.std.specs.BTreeMap.{get}
use Rattle.std.specs.Ordering.{nat_cmp}
use Rattle.std.specs.List.{filter_map, find, insert}
use Rattle.std.specs.Option.{option_map, option_map_or, option_or}
use Rattle.tl_fields.specs.Number.{number_of}
use Rattle.tl_records.specs.Layout.{field_at}
use Rattle.tl_records.specs.declared.layout.TheConstants.Type4.{FEAT1, FEAT2, FEAT3, FEAT4, FEAT5}
use Rattle.tl_records.specs.declared.layout.TheConstants.Type5.{FEDIRP, FENAME, FETYPE, FEDIRS}
use Rattle.tl_segments.specs.FullName.{FullNameFields}
use Rattle.tl_segments.specs.Joining.{has_number, lines_with, further_range}
use Rattle.tl_segments.specs.Shape.{IsPlace, ShapePartParts, shape_parts}
use Rattle.tl_segments.specs.declared.county_file.Addition.{Addition}
use Rattle.tl_segments.specs.declared.county_file.Addition.TheVariants.{Added, OverLimit, Repeated}
use Rattle.tl_segments.specs.declared.validation_tables.LinesPerTlid.{LinesPerTlid}
use Rattle.tl_segments.specs.declared.fault.CountyFile.{CountyFile}
use Rattle.tl_segments.specs.declared.fault.CountyFile.TheVariants.{Rt4, Rt5, Rt6}
use Rattle.tl_segments.specs.declared.feature_names.FeatureNames.{FeatureNames}
use Rattle.tl_segments.specs.declared.multi_map.MultiMap.{MultiMap}
use Rattle.tl_segments.specs.declared.range.RangeFields.{RangeFields}
use Rattle.tl_segments.specs.declared.limits.TheConstants.{MAX_LINES_PER_TLID}

-- the values for a number
abbrev pub list_at : {V A : Type 0} → MultiMap V A → ℕ → List V
list_at multi_map number = option_map_or (λ list. list.items) (get nat_cmp multi_map.lists number) []

-- a fact for each outcome of an addition: it was made, a limit excluded it, or an earlier line did
abbrev pub MatchAddition : Addition → Type 0 → Type 0 → Type 0 → Type 0
MatchAddition Added Adds Full Repeats = Adds
MatchAddition OverLimit Adds Full Repeats = Full
MatchAddition Repeated Adds Full Repeats = Repeats

-- a value was appended to those for a number, which had room
pub record AddsAt {V A : Type 0} (old new : MultiMap V A) (number : ℕ) (value : V) : Type 0 where
  pub room : length (list_at old number) < MAX_LINES_PER_TLID
  pub lists : (q : ℕ) → list_at new q ≡ (if nat_eq number q then list_at old q ++ value ∷ [] else list_at old q)

-- a part was inserted in its place among those for a number, which had room
pub record InsertsAt {A : Type 0} (old new : MultiMap ShapePartParts A) (number : ℕ) (part : ShapePartParts) : Type 0 where
  pub room : length (list_at old number) < MAX_LINES_PER_TLID
  pub place : ℕ
  pub is_place : IsPlace (list_at old number) part.sequence place
  pub lists : (q : ℕ) → list_at new q ≡ (if nat_eq number q then insert (list_at old q) place part else list_at old q)

-- the full name of a FEAT in the list of FEATs that follow the first one
abbrev pub following_name : {A : Type 0} → FeatureNames A → ℕ → Option FullNameFields
following_name table feat = if nat_le table.first feat then slice_get table.following.items (feat - table.first) else None

-- the full name of a FEAT, if it has one
abbrev pub name_at : {A : Type 0} → FeatureNames A → ℕ → Option FullNameFields
name_at table feat = option_or (following_name table feat) (get nat_cmp table.others feat)

-- a FEAT got this full name, unless it already had one
abbrev pub AddsNameAt : {A : Type 0} → FeatureNames A → FeatureNames A → ℕ → FullNameFields → Type 0
AddsNameAt old new feat name = (q : ℕ) → name_at new q ≡ (if nat_eq feat q then Some (unwrap_or (name_at old q) name) else name_at old q)

-- the numbers of a type 4 line's FEATs in order, or none for a FEAT without one
abbrev pub feature_numbers : List ℕ → List (Option ℕ)
feature_numbers line = map (λ feat. number_of (field_at feat line)) (FEAT1 ∷ FEAT2 ∷ FEAT3 ∷ FEAT4 ∷ FEAT5 ∷ [])

-- the full names of these FEATs, for each one that has a number and a name
abbrev pub names_among : {A : Type 0} → FeatureNames A → List (Option ℕ) → List FullNameFields
names_among table feats = filter_map (option_and_then (name_at table)) feats

-- each TLID has what these lines have for it (of type 4, and of type 6)
abbrev pub HoldsFeatures : {A : Type 0} → MultiMap (List (Option ℕ)) A → List (List ℕ) → Type 0
HoldsFeatures table lines = (tlid : ℕ) → list_at table tlid ≡ map feature_numbers (lines_with Rt4 tlid lines)

abbrev pub HoldsRanges : {A : Type 0} → MultiMap RangeFields A → List (List ℕ) → Type 0
HoldsRanges table lines = (tlid : ℕ) → list_at table tlid ≡ map further_range (lines_with Rt6 tlid lines)

-- each TLID has the parts of its shape
abbrev pub HoldsShapes : {A : Type 0} → MultiMap ShapePartParts A → List (List ℕ) → Type 0
HoldsShapes table rt2 = (tlid : ℕ) → list_at table tlid ≡ shape_parts rt2 tlid

-- the full name in a type 5 line
abbrev pub full_name_in : List ℕ → FullNameFields
full_name_in line = record {
  fedirp = field_at FEDIRP line;
  fename = field_at FENAME line;
  fetype = field_at FETYPE line;
  fedirs = field_at FEDIRS line;
}

-- the full name of a FEAT: that of the first type 5 line that has its number, if there is one
abbrev pub feature_full_name : List (List ℕ) → ℕ → Option FullNameFields
feature_full_name rt5 feat = option_map full_name_in (find (has_number Rt5 feat) rt5)

-- each FEAT has the full name that these type 5 lines give it
abbrev pub HoldsNames : {A : Type 0} → FeatureNames A → List (List ℕ) → Type 0
HoldsNames table lines = (feat : ℕ) → name_at table feat ≡ feature_full_name lines feat

-- no list is longer than the limit
abbrev pub HasShortLists : {V A : Type 0} → MultiMap V A → Type 0
HasShortLists table = (number : ℕ) → length (list_at table number) ≤ MAX_LINES_PER_TLID

-- the count of lines with a number
abbrev pub count_at : {T A : Type 0} → LinesPerTlid T A → ℕ → ℕ
count_at counts number = unwrap_or (get nat_cmp counts.counts number) 0

-- one more line was counted for a number, which had room
pub record CountsAt {T A : Type 0} (old new : LinesPerTlid T A) (number : ℕ) : Type 0 where
  pub room : count_at old number < MAX_LINES_PER_TLID
  pub counts : (q : ℕ) → count_at new q ≡ count_at old q + cond (nat_eq number q) 1 0

-- each number's count is the number of these lines of the file that have it
abbrev pub HoldsCounts : {T A : Type 0} → CountyFile → LinesPerTlid T A → List (List ℕ) → Type 0
HoldsCounts file counts lines = (number : ℕ) → count_at counts number ≡ length (lines_with file number lines)
