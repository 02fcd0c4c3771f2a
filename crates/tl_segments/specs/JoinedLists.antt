-- The lists of a segment: shared ones, followed by the segment's own.
use Rattle.std.specs.Prelude.{ℕ, List, [], ◌++◌, Option, Some, None}
use Rattle.std.specs.declared.rc.Rc.{Rc}
use Rattle.tl_segments.specs.FullName.{FullNameFields, contents}
use Rattle.tl_segments.specs.Range.{AreBytes}
use Rattle.tl_segments.specs.Segment.{SegmentParts, IsSegment}
use Rattle.tl_segments.specs.declared.range.RangeFields.{RangeFields}
use Rattle.tl_records.specs.declared.layout.TheConstants.{RECORD_LENGTH}
use Rattle.tl_segments.specs.declared.joined.JoinedLists.{JoinedLists}

-- the shared names, if there are any
abbrev pub shared_names : {A : Type 0} → Option (Rc (JoinedLists A) A) → List FullNameFields
shared_names None = []
shared_names (Some joined) = joined.value.names.items

-- the shared ranges, if there are any
abbrev pub shared_ranges : {A : Type 0} → Option (Rc (JoinedLists A) A) → List RangeFields
shared_ranges None = []
shared_ranges (Some joined) = joined.value.ranges.items

-- the contents of a segment with this record, whose own names and ranges follow the shared ones
abbrev pub contents_with : {A : Type 0} → Option (Rc (JoinedLists A) A) → List ℕ → List FullNameFields → List RangeFields → SegmentParts
contents_with shared bytes names ranges = contents bytes (shared_names shared ++ names) (shared_ranges shared ++ ranges)

-- a segment with any record may have these lists
abbrev pub AreValidLists : {A : Type 0} → JoinedLists A → Type 0
AreValidLists joined = (bytes : List ℕ) → AreBytes RECORD_LENGTH bytes → IsSegment (contents bytes joined.names.items joined.ranges.items)
