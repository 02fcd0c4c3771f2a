-- The truth of functions on a segment.
use Rattle.std.specs.Prelude.{ℕ, ◌+◌, Bool, true, false, ◌||◌, nat_le, List, length, take, Option, Some, None, option_map, if◌then◌else◌}
use Rattle.std.specs.List.{list_any}
use Rattle.tl_segments.specs.Name.{name_equals}
use Rattle.tl_segments.specs.Range.{lies_on}
use Rattle.tl_segments.specs.Segment.{SegmentParts, names_of, ranges_of}
use Rattle.tl_segments.specs.declared.range.RangeFields.{RangeFields}
use Rattle.cql2.specs.Geometry.{contains, geometry_of, lies_in_bounds, lies_in_some, meets, start_of}
use Rattle.cql2.specs.declared.function.Function.{Function}
use Rattle.cql2.specs.declared.function.Function.TheVariants.{HasNumber, HasName, Intersects, StartsIn, StartsInBounds, Within}

-- a house number lies on one of the sides of a range
abbrev pub has_number : ℕ → RangeFields → Bool
has_number number range = lies_on number range.fraddl range.toaddl || lies_on number range.fraddr range.toaddr

-- The segment has this name, as its own or as one of its first `most` alternate names. If it has more alternate names and none of those is this
-- one, the answer is unknown.
abbrev pub has_name : List ℕ → ℕ → SegmentParts → Option Bool
has_name text most segment =
    if list_any (λ name. name_equals name text) (take (1 + most) (names_of segment)) then Some true
    else (if nat_le (length segment.names) most then Some false else None)

-- the truth of a function; none if it is neither true nor false
abbrev pub truth_of : {A : Type 0} → Function A → SegmentParts → Option Bool
truth_of (HasNumber house) segment = Some (list_any (has_number house.number) (ranges_of segment))
truth_of (HasName text limit) segment = has_name text.bytes.items limit.number segment
truth_of (Intersects shape) segment = option_map (meets shape) (geometry_of segment.bytes)
truth_of (StartsIn several) segment = option_map (lies_in_some several) (start_of segment.bytes)
truth_of (StartsInBounds bounds) segment = option_map (lies_in_bounds bounds) (start_of segment.bytes)
truth_of (Within bounds) segment = option_map (contains bounds) (geometry_of segment.bytes)
