-- The ids of columns in calls of helper functions.
use Rattle.std.proofs.Common.{◌≡◌, ℕ, zero, suc, ◌<◌, ◌≤◌, ◌^◌, true, [], ◌∷◌, refl, arith, lit≤}
use Rattle.std.specs.Prelude.{get_or}
use Rattle.std.proofs.lemmas.Bool.Decides.{nat_tests}
use Rattle.bpf_helpers.specs.Call.{Meets, MeetsSignature}
use Rattle.bpf_helpers.specs.Helper.{signature}
use Rattle.bpf_helpers.specs.Meaning.{coordinate, field_number, or_zero}
use Rattle.bpf_helpers.specs.declared.helper.Helper.TheVariants as helper
use Rattle.bpf_helpers.specs.declared.signature.Argument.TheVariants.{Unused}
use Rattle.bpf_helpers.proofs.CallLemmas.{answer-fits}
use Rattle.bpf_kinds.specs.Interval.{between}
use Rattle.bpf_meaning.specs.Effect.{is_allowed}
use Rattle.cql2.specs.declared.column.CoordinateColumn.{CoordinateColumn}
use Rattle.cql2.specs.declared.column.CoordinateColumn.TheVariants.{Frlong}
use Rattle.cql2.specs.declared.column.NumberColumn.{NumberColumn}
use Rattle.cql2.specs.declared.column.NumberColumn.TheVariants.{Tlid}
use Rattle.tl_segments.specs.Segment.{SegmentParts, IsSegment}
use Rattle.cql2_code.specs.Question.{coordinate_id, field_id}

pub field_small : (column : NumberColumn) → field_id column ≤ 16
field_small Tlid = lit≤ tt
field_small column = lit≤ tt

pub coordinate_small : (column : CoordinateColumn) → coordinate_id column ≤ 3
coordinate_small Frlong = lit≤ tt
coordinate_small column = lit≤ tt

-- helper functions accept the ids

small_allowed : (most number : ℕ) → number ≤ most → is_allowed (between 0 most) number ≡ true
small_allowed most number small = grind (arith, nat_tests)

pub field_allowed : (column : NumberColumn) → is_allowed (between 0 16) (field_id column) ≡ true
field_allowed column = small_allowed 16 (field_id column) (field_small column)

pub coordinate_allowed : (column : CoordinateColumn) → is_allowed (between 0 3) (coordinate_id column) ≡ true
coordinate_allowed column = small_allowed 3 (coordinate_id column) (coordinate_small column)

-- the answers have 64 bits

field_meets : (column : NumberColumn) → MeetsSignature helper.Field (field_id column ∷ 0 ∷ 0 ∷ [])
field_meets column = record { count = refl; each = each; within = tt }
  where
    each : (at : ℕ) → Meets (get_or (signature helper.Field).arguments at Unused) (get_or (field_id column ∷ 0 ∷ 0 ∷ []) at 0)
    each zero = record { above = omega arith; below = field_small column }
    each (suc zero) = tt
    each (suc (suc zero)) = tt
    each (suc (suc (suc at))) = tt

coordinate_meets : (column : CoordinateColumn) → MeetsSignature helper.Coord (coordinate_id column ∷ 0 ∷ 0 ∷ [])
coordinate_meets column = record { count = refl; each = each; within = tt }
  where
    each : (at : ℕ) → Meets (get_or (signature helper.Coord).arguments at Unused) (get_or (coordinate_id column ∷ 0 ∷ 0 ∷ []) at 0)
    each zero = record { above = omega arith; below = coordinate_small column }
    each (suc zero) = tt
    each (suc (suc zero)) = tt
    each (suc (suc (suc at))) = tt

pub field_fits : (segment : SegmentParts) (column : NumberColumn) → IsSegment segment
    → or_zero (field_number segment.bytes (field_id column)) < 2 ^ 64
field_fits segment column is = answer-fits helper.Field segment (field_id column ∷ 0 ∷ 0 ∷ []) [] 0 is (field_meets column)

pub coordinate_fits : (segment : SegmentParts) (column : CoordinateColumn) → IsSegment segment
    → coordinate segment.bytes (coordinate_id column) < 2 ^ 64
coordinate_fits segment column is = answer-fits helper.Coord segment (coordinate_id column ∷ 0 ∷ 0 ∷ []) [] 0 is (coordinate_meets column)
