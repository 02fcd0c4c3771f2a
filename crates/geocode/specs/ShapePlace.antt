-- Where a house number lies along the shape of its segment (TIGER/Line 2006, record types 1 and 2), by the length of the shape.
use Rattle.std.specs.Prelude.{◌≡◌, ℕ, ◌+◌, ◌-◌, ◌==◌, if◌then◌else◌, List, [], ◌∷◌, ◌++◌, Option, Some, None}
use Rattle.std.specs.List.{flat_map}
use Rattle.linear_referencing.specs.Place.{IsAtShare}
use Rattle.linear_referencing.specs.declared.place.Place.{Place}
use Rattle.linear_referencing.specs.declared.place.Share.{Share}
use Rattle.tl_records.specs.declared.layout.TheConstants.Type1.{FRLONG, FRLAT, TOLONG, TOLAT}
use Rattle.tl_segments.specs.Range.{lies_on}
use Rattle.tl_segments.specs.Shape.{ShapePartParts}
use Rattle.tl_segments.specs.declared.shape.Point.{Point}
use Rattle.geocode.specs.Matches.{MatchParts}
use Rattle.geocode.specs.Measure.{measure_on, place_at}
use Rattle.geocode.specs.Sides.{SideParts}
use Rattle.geocode.specs.declared.measure.Measure.{Measure}

-- the points of a segment's line: its start, the points of its shape, its end
abbrev pub line_points : Point → List ShapePartParts → Point → List Point
line_points start parts end = start ∷ flat_map (λ part. part.points) parts ++ end ∷ []

abbrev pub point_of : Place → Point
point_of place = record { longitude = place.longitude; latitude = place.latitude }

-- a house number with the addresses of the side that it lies on
abbrev pub measure_within : ℕ → SideParts → Option Measure
measure_within number side = if lies_on number side.from side.to then measure_on number side else None

-- how far apart two house numbers are
abbrev pub difference : ℕ → ℕ → ℕ
difference number other = (number - other) + (other - number)

-- how far the number is from the FR address, as a share of the way to the TO address; nothing of it if the addresses are equal
abbrev pub share_of : Measure → Share
share_of measure =
    if measure.from == measure.to then record { part = 0; whole = 1 }
    else record { part = difference measure.number measure.from; whole = difference measure.to measure.from }

-- the place is at the number's share of the line's length, if the number is on the side and the ends are known; otherwise there is none
abbrev pub IsOnLine : Option Measure → Option Place → Option Place → List ShapePartParts → Option Place → Type 0
IsOnLine (Some measure) (Some start) (Some end) parts (Some place) =
    IsAtShare (line_points (point_of start) parts (point_of end)) (share_of measure) place
IsOnLine (Some measure) (Some start) (Some end) parts None = ⊥
IsOnLine measure start end parts place = place ≡ None

-- the place of a house number on the line of the match's segment
abbrev pub IsOnShape : ℕ → MatchParts → List ShapePartParts → Option Place → Type 0
IsOnShape number found parts place =
    IsOnLine (measure_within number found.side) (place_at FRLONG FRLAT found.bytes) (place_at TOLONG TOLAT found.bytes) parts place
