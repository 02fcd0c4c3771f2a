-- Hits of a house number on a street (TIGER/Line 2006, record types 1, 4, 5 and 6: names and address ranges of segments).
use Rattle.std.specs.Prelude.{ℕ, nat_eq, Bool, true, ◌&&◌, if◌then◌else◌, List, [], ◌∷◌, filter, Option, Some, None, option_map}
use Rattle.std.specs.List.{filter_map, flat_map, list_any}
use Rattle.std.specs.Option.{option_eq}
use Rattle.tl_fields.specs.Number.{number_of}
use Rattle.tl_records.specs.Layout.{field_at}
use Rattle.tl_records.specs.declared.layout.TheConstants.Type1.{TLID}
use Rattle.tl_segments.specs.County.{CountyParts}
use Rattle.tl_segments.specs.Name.{name_equals}
use Rattle.tl_segments.specs.Range.{lies_on}
use Rattle.tl_segments.specs.Segment.{SegmentParts, names_of, ranges_of}
use Rattle.tl_segments.specs.declared.range.RangeFields.{RangeFields}
use Rattle.geocode.specs.Measure.{place_on}
use Rattle.geocode.specs.Sides.{SideParts, side_of}
use Rattle.geocode.specs.declared.hit.Hit.{Hit}
use Rattle.geocode.specs.declared.hit.Side.{Side}
use Rattle.geocode.specs.declared.hit.Side.TheVariants.{Left, Right}
use Rattle.geocode.specs.declared.house.House.{House}

-- some name of the segment equals this one
abbrev pub has_name : List ℕ → SegmentParts → Bool
has_name name segment = list_any (λ named. name_equals named name) (names_of segment)

-- a side's ZIP code has the wanted number, if one is wanted
abbrev pub has_zip : Option ℕ → List ℕ → Bool
has_zip None field = true
has_zip (Some zip) field = option_eq nat_eq (number_of field) (Some zip)

-- the house number lies on the side, and in the wanted ZIP code
abbrev pub is_on : House → SideParts → Bool
is_on house side = lies_on house.number side.from side.to && has_zip house.zip side.zip

-- the hit on a side of a range of a segment with this type 1 record, if the house is on it; each segment of a county has a numeric TLID
abbrev pub hit_on : House → List ℕ → RangeFields → Side → Option Hit
hit_on house bytes range side =
    if is_on house (side_of range side)
    then option_map (λ tlid. record { tlid = tlid; side = side; place = place_on house.number bytes (side_of range side) }) (number_of (field_at TLID bytes))
    else None

-- the hits on the sides of a range, left before right
abbrev pub hits_on_range : House → List ℕ → RangeFields → List Hit
hits_on_range house bytes range = filter_map (hit_on house bytes range) (Left ∷ Right ∷ [])

-- the hits on the ranges of a segment, range 0 first
abbrev pub hits_on_segment : House → SegmentParts → List Hit
hits_on_segment house segment = flat_map (hits_on_range house segment.bytes) (ranges_of segment)

-- the hits in a county, on its segments with this name, in order
abbrev pub hits_in_county : List ℕ → House → CountyParts → List Hit
hits_in_county name house county = flat_map (hits_on_segment house) (filter (has_name name) county.segments)

-- the hits in counties, in order
abbrev pub find : List ℕ → House → List CountyParts → List Hit
find name house counties = flat_map (hits_in_county name house) counties
