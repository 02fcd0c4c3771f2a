-- Street segments (TIGER/Line 2006, record types 1, 4, 5 and 6).
use Rattle.std.specs.Prelude.{◌≡◌, ◌≢◌, ◌⊎◌, ℕ, ◌≤◌, List, [], ◌∷◌, length, replicate, All}
use Rattle.tl_records.specs.Layout.{field_at}
use Rattle.tl_records.specs.Lines.{LineParts}
use Rattle.tl_records.specs.declared.layout.TheConstants.Type1.{FENAME}
use Rattle.tl_segments.specs.Affixes.{Affixes, AreAffixes}
use Rattle.tl_segments.specs.Range.{AreBytes, IsRange, own_range}
use Rattle.tl_segments.specs.declared.name.TheConstants.{NAME_LENGTH}
use Rattle.tl_segments.specs.declared.range.RangeFields.{RangeFields}
use Rattle.tl_segments.specs.declared.limits.TheConstants.{MAX_NAMES, MAX_RANGES}
use Rattle.tl_records.specs.declared.layout.TheConstants.{RECORD_LENGTH}

-- the contents of a segment: the bytes of its type 1 record, its alternate names, the affixes of each of them, and its further ranges
pub record SegmentParts : Type 0 where
  pub bytes : List ℕ
  pub names : List (List ℕ)
  pub affixes : List Affixes
  pub ranges : List RangeFields

-- the record, the names and the fields of the ranges have the right lengths, the numbers of names and ranges are within the limits, and each
-- alternate name has its affixes
pub record IsSegment (segment : SegmentParts) : Type 0 where
  pub bytes : AreBytes RECORD_LENGTH segment.bytes
  pub names : All (AreBytes NAME_LENGTH) segment.names
  pub few_names : length segment.names ≤ MAX_NAMES
  pub affixes : All AreAffixes segment.affixes
  pub paired : length segment.affixes ≡ length segment.names
  pub ranges : All IsRange segment.ranges
  pub few_ranges : length segment.ranges ≤ MAX_RANGES

-- a blank record, and nothing else
abbrev pub blank_segment : SegmentParts
blank_segment = record { bytes = replicate RECORD_LENGTH 32; names = []; affixes = []; ranges = [] }

-- the line with this number whose bytes are the segment's record
abbrev pub line_of : ℕ → SegmentParts → LineParts
line_of number segment = record { number = number; bytes = segment.bytes }

-- something is joined to the record: an alternate name or a further range
abbrev pub HasJoined : SegmentParts → Type 0
HasJoined segment = (segment.names ≢ []) ⊎ (segment.ranges ≢ [])

-- the names of a segment in order, counted from 0: the record's FENAME, and then the alternate names
abbrev pub names_of : SegmentParts → List (List ℕ)
names_of segment = field_at FENAME segment.bytes ∷ segment.names

-- the ranges of a segment in order, counted from 0: the record's own, and then the further ones
abbrev pub ranges_of : SegmentParts → List RangeFields
ranges_of segment = own_range segment.bytes ∷ segment.ranges
