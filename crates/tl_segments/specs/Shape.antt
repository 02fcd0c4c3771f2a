-- Shapes of segments (TIGER/Line 2006, record type 2): the points between a segment's start and its end, joined by TLID. Lists of lines are in file
-- order and contain only lines that are good for record type 2.
use Rattle.std.specs.Prelude.{◌≡◌, ℕ, ℤ, pos, ◌+◌, ◌^◌, ◌<◌, ◌≤◌, nat_abs, nat_eq, Bool, ◌&&◌, if◌then◌else◌, List, [], ◌∷◌, length, map, filter, slice_index, Option, Some, None, unwrap_or}
use Rattle.std.specs.List.{flat_map, range_with_len}
use Rattle.std.specs.Option.{option_eq}
use Rattle.std.specs.Ordering.{int_eq}
use Rattle.tl_fields.specs.Coordinate.{coordinate_of}
use Rattle.tl_fields.specs.Number.{number_of}
use Rattle.tl_records.specs.Layout.{field_at, latitude, longitude}
use Rattle.tl_records.specs.declared.layout.TheConstants.Type2.{POINTS, RTSQ}
use Rattle.tl_segments.specs.Joining.{lines_with}
use Rattle.tl_segments.specs.declared.fault.CountyFile.{CountyFile}
use Rattle.tl_segments.specs.declared.fault.CountyFile.TheVariants.{Rt2}
use Rattle.tl_segments.specs.declared.shape.Point.{Point}

-- both coordinates have at most nine digits
pub record IsPoint (point : Point) : Type 0 where
  pub longitude : nat_abs point.longitude < 10 ^ 9
  pub latitude : nat_abs point.latitude < 10 ^ 9

-- the point with these coordinates: none if one is missing, or if both are 0
abbrev pub point_of : Option ℤ → Option ℤ → Option Point
point_of (Some longitude) (Some latitude) =
    if int_eq longitude (pos 0) && int_eq latitude (pos 0) then None else Some (record { longitude = longitude; latitude = latitude })
point_of longitude latitude = None

-- the n-th point of a line, counted from 1
abbrev pub point_at : List ℕ → ℕ → Option Point
point_at line n = point_of (coordinate_of (field_at (longitude n) line)) (coordinate_of (field_at (latitude n) line))

-- the points before the first that is none
abbrev pub before_none : List (Option Point) → List Point
before_none [] = []
before_none (None ∷ points) = []
before_none (Some point ∷ points) = point ∷ before_none points

-- the points of a line
unfoldable pub points_in : List ℕ → List Point
points_in line = before_none (map (point_at line) (range_with_len 1 POINTS))

-- the number in a line's RTSQ
abbrev pub sequence_in : List ℕ → Option ℕ
sequence_in line = number_of (field_at RTSQ line)

abbrev pub has_sequence : ℕ → List ℕ → Bool
has_sequence sequence line = option_eq nat_eq (sequence_in line) (Some sequence)

-- the lines with this TLID and this RTSQ
abbrev pub lines_at : ℕ → ℕ → List (List ℕ) → List (List ℕ)
lines_at tlid sequence rt2 = filter (has_sequence sequence) (lines_with Rt2 tlid rt2)

-- the numbers of RTSQ, which has three digits, in ascending order
unfoldable pub sequences : List ℕ
sequences = range_with_len 0 1000

-- the lines with this TLID in the order of RTSQ
abbrev pub shape_lines : List (List ℕ) → ℕ → List (List ℕ)
shape_lines rt2 tlid = flat_map (λ sequence. lines_at tlid sequence rt2) sequences

-- the points of a TLID's shape
abbrev pub shape_points : List (List ℕ) → ℕ → List Point
shape_points rt2 tlid = flat_map points_in (shape_lines rt2 tlid)

-- a part of a shape: the points of one line, and the number in its RTSQ
pub record ShapePartParts : Type 0 where
  pub sequence : ℕ
  pub points : List Point

abbrev pub part_in : List ℕ → ShapePartParts
part_in line = record { sequence = unwrap_or (sequence_in line) 0; points = points_in line }

-- the parts of the shape of each TLID
abbrev pub ShapeTable : Type 0
ShapeTable = ℕ → List ShapePartParts

abbrev pub shape_parts : List (List ℕ) → ShapeTable
shape_parts rt2 tlid = map part_in (shape_lines rt2 tlid)

-- no two type 2 lines have the same TLID and the same RTSQ
abbrev pub HasDistinctSequences : CountyFile → List (List ℕ) → Type 0
HasDistinctSequences Rt2 rt2 = (tlid sequence : ℕ) → length (lines_at tlid sequence rt2) ≤ 1
HasDistinctSequences file lines = Unit {0}

-- the sequence number of the part at an index
abbrev pub sequence_at : List ShapePartParts → ℕ → ℕ
sequence_at parts index = slice_index (map (λ part. part.sequence) parts) index

-- parts in ascending order stay so if one with this sequence number is inserted at this index: the part before it has a smaller number, and all
-- after it have greater ones
pub record IsPlace (parts : List ShapePartParts) (sequence place : ℕ) : Type 0 where
  pub within : place ≤ length parts
  pub after : (k : ℕ) → k + 1 ≡ place → sequence_at parts k < sequence
  pub before : (k : ℕ) → place ≤ k → k < length parts → sequence < sequence_at parts k

-- one of the parts has this sequence number
abbrev pub IsTaken : List ShapePartParts → ℕ → Type 0
IsTaken parts sequence = (k : ℕ) × (k < length parts) × (sequence_at parts k ≡ sequence)
