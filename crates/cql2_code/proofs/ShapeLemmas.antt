-- The questions about a segment's line: they are sound, and have the answers that the truth of the function determines.
use Rattle.std.proofs.Common.{◌≡◌, ℤ, Bool, true, is_some, Option, Some, None, option_map, refl, ap, ◌∙◌}
use Rattle.std.specs.Bool.{beq}
use Rattle.tl_segments.specs.Segment.{SegmentParts}
use Rattle.cql2.specs.Column.{numeric_value}
use Rattle.cql2.specs.Geometry.{Edge, Point, contains, edge_between, geometry_of, lies_in_bounds, lies_in_some, meets, point_at, start_of}
use Rattle.cql2.specs.Truth.{is}
use Rattle.cql2.specs.declared.column.CoordinateColumn.TheVariants.{Frlong, Frlat, Tolong, Tolat}
use Rattle.cql2.specs.declared.column.NumericColumn.TheVariants.{Coordinate}
use Rattle.cql2.specs.declared.geometry.Bounds.{Bounds}
use Rattle.cql2.specs.declared.geometry.Polygons.{Polygons}
use Rattle.cql2.specs.declared.geometry.Shape.{Shape}
use Rattle.cql2.specs.declared.geometry.Shape.TheVariants as shape
use Rattle.cql2.proofs.Starts.{at, starts_in}
use Rattle.cql2_code.specs.Function.{asks_line, asks_meets, asks_within, knows_line}
use Rattle.cql2_code.specs.Question.{Coded, answer, joined}
use Rattle.cql2_code.specs.ShapeCode.{Marking, asks_marks, line_of, marks_shape, or_zero}
use Rattle.cql2_code.specs.WithinCode.{marks_within}
use Rattle.cql2_code.specs.declared.line.Extent.{Extent}
use Rattle.cql2_code.specs.declared.line.Extent.TheVariants.{Whole, Start}
use Rattle.cql2_code.proofs.Blocks.{IsSound, if_asked_sound}
use Rattle.cql2_code.proofs.ExpressionSound.{has_value_sound}
use Rattle.cql2_code.proofs.JoinLemmas.{asked_answers, joined_answers}
use Rattle.cql2_code.proofs.NumberLemmas.{has_value_rightly}
use Rattle.cql2_code.proofs.ShapeBlocks.{IsSoundMarking, marks_sound, shape_sound, within_sound}

knows_soundly : (extent : Extent) → IsSound (knows_line extent)
knows_soundly Whole = (
  (has_value_sound (Coordinate Frlong), has_value_sound (Coordinate Frlat)),
  (has_value_sound (Coordinate Tolong), has_value_sound (Coordinate Tolat)),
)
knows_soundly Start = (has_value_sound (Coordinate Frlong), has_value_sound (Coordinate Frlat))

line_soundly : (extent : Extent) (marking : Marking) (asked : Bool) → IsSoundMarking marking → IsSound (asks_line extent (asks_marks extent marking) asked)
line_soundly extent marking asked sound =
    (knows_soundly extent, if_asked_sound (Coded (asks_marks extent marking)) asked (marks_sound extent marking sound))

pub meets_soundly : {A : Type 0} (extent : Extent) (shape : Shape A) (asked : Bool) → IsSound (asks_meets extent shape asked)
meets_soundly extent shape asked = line_soundly extent (marks_shape shape) asked (shape_sound shape)

pub within_soundly : (extent : Extent) (bounds : Bounds) (asked : Bool) → IsSound (asks_within extent bounds asked)
within_soundly extent bounds asked = line_soundly extent (marks_within extent bounds) asked (within_sound extent bounds)

-- by the coordinates of a segment's start and end

by_ends : (found : Edge → Bool) (asked : Bool) (w x y z : Option ℤ)
    → (let line : Edge = record {
      start = record { longitude = or_zero w; latitude = or_zero x };
      end = record { longitude = or_zero y; latitude = or_zero z };
    } in
    joined true (joined true (joined true (is_some w) (is_some x)) (joined true (is_some y) (is_some z))) (beq (found line) asked)
    ≡ is (option_map found (edge_between (point_at w x) (point_at y z))) asked)
by_ends found asked None x y z = refl
by_ends found asked (Some w) None y z = refl
by_ends found asked (Some w) (Some x) None z = refl
by_ends found asked (Some w) (Some x) (Some y) None = refl
by_ends found asked (Some w) (Some x) (Some y) (Some z) = refl

by_start : (found : Point → Bool) (asked : Bool) (w x : Option ℤ)
    → joined true (joined true (is_some w) (is_some x)) (beq (found (record { longitude = or_zero w; latitude = or_zero x })) asked)
    ≡ is (option_map found (point_at w x)) asked
by_start found asked None x = refl
by_start found asked (Some w) None = refl
by_start found asked (Some w) (Some x) = refl

whole_rightly : (segment : SegmentParts) (marking : Marking) (asked : Bool)
    → answer (asks_line Whole (asks_marks Whole marking) asked) segment ≡ is (option_map marking.is_marked (geometry_of segment.bytes)) asked
whole_rightly segment marking asked =
    joined_answers true
    (joined_answers true
    (joined_answers true (has_value_rightly (Coordinate Frlong) segment) (has_value_rightly (Coordinate Frlat) segment))
    (joined_answers true (has_value_rightly (Coordinate Tolong) segment) (has_value_rightly (Coordinate Tolat) segment)))
    (asked_answers (Coded (asks_marks Whole marking)) segment asked)
    ∙ by_ends marking.is_marked asked (numeric_value (Coordinate Frlong) segment.bytes) (numeric_value (Coordinate Frlat) segment.bytes)
    (numeric_value (Coordinate Tolong) segment.bytes) (numeric_value (Coordinate Tolat) segment.bytes)

start_rightly : (segment : SegmentParts) (marking : Marking) (found : Point → Bool) (asked : Bool)
    → ((point : Point) → marking.is_marked (at point) ≡ found point)
    → answer (asks_line Start (asks_marks Start marking) asked) segment ≡ is (option_map found (start_of segment.bytes)) asked
start_rightly segment marking found asked same =
    joined_answers true
    (joined_answers true (has_value_rightly (Coordinate Frlong) segment) (has_value_rightly (Coordinate Frlat) segment))
    (asked_answers (Coded (asks_marks Start marking)) segment asked ∙ ap (λ (t : Bool). beq t asked) (same (line_of Start segment).start))
    ∙ by_start found asked (numeric_value (Coordinate Frlong) segment.bytes) (numeric_value (Coordinate Frlat) segment.bytes)

-- the functions

pub intersects_rightly : {A : Type 0} (segment : SegmentParts) (shape : Shape A) (asked : Bool)
    → answer (asks_meets Whole shape asked) segment ≡ is (option_map (meets shape) (geometry_of segment.bytes)) asked
intersects_rightly segment shape asked = whole_rightly segment (marks_shape shape) asked

pub starts_in_rightly : {A : Type 0} (segment : SegmentParts) (several : Polygons A) (asked : Bool)
    → answer (asks_meets Start (shape.Polygons several) asked) segment
    ≡ is (option_map (lies_in_some several) (start_of segment.bytes)) asked
starts_in_rightly segment several asked =
    start_rightly segment (marks_shape (shape.Polygons several)) (lies_in_some several) asked (starts_in several)

pub within_rightly : (segment : SegmentParts) (bounds : Bounds) (asked : Bool)
    → answer (asks_within Whole bounds asked) segment ≡ is (option_map (contains bounds) (geometry_of segment.bytes)) asked
within_rightly segment bounds asked = whole_rightly segment (marks_within Whole bounds) asked

pub starts_in_bounds_rightly : (segment : SegmentParts) (bounds : Bounds) (asked : Bool)
    → answer (asks_within Start bounds asked) segment ≡ is (option_map (lies_in_bounds bounds) (start_of segment.bytes)) asked
starts_in_bounds_rightly segment bounds asked =
    start_rightly segment (marks_within Start bounds) (lies_in_bounds bounds) asked (λ point. refl)
