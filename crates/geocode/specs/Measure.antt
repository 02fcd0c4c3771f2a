-- Where a house number lies along a street segment (TIGER/Line 2006, record type 1: FRLONG, FRLAT, TOLONG and TOLAT; record types 1 and 6: address
-- ranges).
use Rattle.std.specs.Prelude.{ℕ, nat_abs, ◌^◌, ◌<◌, ℤ, pos, ◌+ℤ◌, ◌-ℤ◌, ◌*ℤ◌, int_div, ◌==◌, if◌then◌else◌, IsTrue, List, Option, Some, None}
use Rattle.tl_fields.specs.Coordinate.{coordinate_of}
use Rattle.tl_fields.specs.Number.{number_of}
use Rattle.tl_records.specs.Layout.{field_at}
use Rattle.tl_records.specs.declared.layout.Places.{Places}
use Rattle.tl_records.specs.declared.layout.TheConstants.Type1.{FRLONG, FRLAT, TOLONG, TOLAT}
use Rattle.tl_segments.specs.Range.{is_between}
use Rattle.geocode.specs.Sides.{SideParts}
use Rattle.linear_referencing.specs.declared.place.Place.{Place}
use Rattle.geocode.specs.declared.measure.Measure.{Measure}

-- a house number and the addresses of its side, if both have a number
abbrev pub measure_between : ℕ → Option ℕ → Option ℕ → Option Measure
measure_between number (Some from) (Some to) = Some (record { number = number; from = from; to = to })
measure_between number from to = None

-- a house number on a side
abbrev pub measure_on : ℕ → SideParts → Option Measure
measure_on number side = measure_between number (number_of side.from) (number_of side.to)

-- a house number between addresses of at most 11 digits
pub record IsMeasure (measure : Measure) : Type 0 where
  pub from : measure.from < 10 ^ 11
  pub to : measure.to < 10 ^ 11
  pub between : IsTrue (is_between measure.from measure.to measure.number)

-- As far from one coordinate to the other as the number is from the FR to the TO address, with the quotient truncated toward zero. If the addresses
-- are equal, it is the first coordinate.
abbrev pub coordinate_along : ℤ → ℤ → Measure → ℤ
coordinate_along from to measure =
    if measure.from == measure.to then from
    else from +ℤ int_div ((to -ℤ from) *ℤ (pos measure.number -ℤ pos measure.from)) (pos measure.to -ℤ pos measure.from)

-- the place with these coordinates, if both are known
abbrev pub known_place : Option ℤ → Option ℤ → Option Place
known_place (Some longitude) (Some latitude) = Some (record { longitude = longitude; latitude = latitude })
known_place longitude latitude = None

-- its coordinates have at most 9 digits
pub record IsNear (place : Place) : Type 0 where
  pub longitude : nat_abs place.longitude < 10 ^ 9
  pub latitude : nat_abs place.latitude < 10 ^ 9

-- the place whose longitude and latitude are in these columns of a type 1 record
abbrev pub place_at : Places → Places → List ℕ → Option Place
place_at longitude latitude bytes = known_place (coordinate_of (field_at longitude bytes)) (coordinate_of (field_at latitude bytes))

-- the place of a house number between the ends of the segment, if all four coordinates are known
abbrev pub place_between : Option Place → Option Place → Option Measure → Option Place
place_between (Some from) (Some to) (Some measure) = Some (record {
  longitude = coordinate_along from.longitude to.longitude measure;
  latitude = coordinate_along from.latitude to.latitude measure;
})
place_between from to measure = None

-- the place of a house number on this side of a segment with this type 1 record
abbrev pub place_on : ℕ → List ℕ → SideParts → Option Place
place_on number bytes side = place_between (place_at FRLONG FRLAT bytes) (place_at TOLONG TOLAT bytes) (measure_on number side)
