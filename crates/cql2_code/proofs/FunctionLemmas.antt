-- The questions about a function of filters: they are sound, and have the answers that the function's truth determines.
use Rattle.std.proofs.Common.{◌≡◌, ℕ, zero, suc, ◌+◌, ◌-◌, ◌<◌, ◌≤◌, ◌^◌, pos, Bool, true, false, List, [], ◌∷◌, ◌++◌, length}
use Rattle.std.proofs.Common.{replicate, slice_index, if◌then◌else◌, arith}
use Rattle.std.specs.Prelude.{FitsSigned}
use Rattle.std.specs.Int.{w64}
use Rattle.std.proofs.lemmas.List.{length-append, length-replicate}
use Rattle.tl_segments.specs.Range.{AreBytes}
use Rattle.tl_segments.specs.Segment.{SegmentParts, IsSegment}
use Rattle.tl_segments.specs.declared.limits.TheConstants.{MAX_RANGES}
use Rattle.cql2.specs.Function.{truth_of}
use Rattle.cql2.specs.Truth.{is as is_truth}
use Rattle.cql2.specs.declared.function.Function.{Function}
use Rattle.cql2.specs.declared.function.Function.TheVariants.{HasNumber, HasName, Intersects, StartsIn, StartsInBounds, Within}
use Rattle.cql2.specs.declared.geometry.Shape.TheVariants as shape
use Rattle.cql2_code.specs.Function.{asks_function, asks_has_name, asks_has_number, checks_for_end, is_named_from, lies_from, name_block}
use Rattle.cql2_code.specs.Question.{Question, Joined, answer}
use Rattle.cql2_code.specs.declared.line.Extent.TheVariants.{Whole, Start}
use Rattle.cql2_code.proofs.Blocks.{IsSound, if_asked_sound}
use Rattle.cql2_code.proofs.ByteLemmas.{AreSmall, small_blanks}
use Rattle.cql2_code.proofs.NameLemmas.{has_name_rightly}
use Rattle.cql2_code.proofs.NumberLemmas.{small_fits}
use Rattle.cql2_code.proofs.RangeLemmas.{has_number_rightly}
use Rattle.cql2_code.proofs.ShapeLemmas.{intersects_rightly, meets_soundly, starts_in_bounds_rightly, starts_in_rightly, within_rightly, within_soundly}
use Rattle.cql2_code.proofs.TextLemmas.{IsRequired, text_required}

-- Names and ranges: their numbers are within their types

zero_fits : FitsSigned w64 (pos 0)
zero_fits = small_fits 0 (omega arith)

count_sound : (number : ℕ) → number < 2 ^ 16 → FitsSigned w64 (pos number)
count_sound number small = small_fits number (omega arith)

part_sound : (inside here rest : Question) → IsSound inside → IsSound here → IsSound rest → (milestone : Bool)
    → IsSound (if milestone then Joined true inside (Joined false here rest) else Joined false here rest)
part_sound inside here rest first second third true = (first, (second, third))
part_sound inside here rest first second third false = (second, third)

lies_sound : (house at more : ℕ) → house < 2 ^ 64 → at + more ≤ 2 ^ 16 → IsSound (lies_from house at more)
unfolding lies_from
lies_sound house at zero fits few = tt
lies_sound house at (suc more) fits few = part_sound _ _ _
    (record { subject = tt; operand = count_sound at (omega arith) })
    (record { subject = (omega arith, fits); operand = zero_fits })
    (lies_sound house (at + 1) more fits (omega arith)) (checks_for_end at)

has_number_sound : (house : ℕ) (asked : Bool) → house < 2 ^ 64 → IsSound (asks_has_number house asked)
has_number_sound house asked fits =
    if_asked_sound (lies_from house 0 (suc MAX_RANGES)) asked (lies_sound house 0 (suc MAX_RANGES) fits (omega arith))

named_sound : (required : List ℕ) (at more : ℕ) → AreBytes 32 required → at + more ≤ 2 ^ 16 → IsSound (is_named_from required at more)
unfolding is_named_from
named_sound required at zero block few = tt
named_sound required at (suc more) block few = part_sound _ _ _
    (record { subject = tt; operand = count_sound at (omega arith) })
    (record { subject = (omega arith, block); operand = zero_fits })
    (named_sound required (at + 1) more block (omega arith)) (checks_for_end at)

small_each : (bytes : List ℕ) → AreSmall bytes → (i : ℕ) → slice_index bytes i < 2 ^ 8
small_each [] small i = omega arith
small_each (byte ∷ bytes) small zero = small.0
small_each (byte ∷ bytes) small (suc i) = small_each bytes small.1 i

small_append : (first second : List ℕ) → AreSmall first → AreSmall second → AreSmall (first ++ second)
small_append [] second small others = others
small_append (byte ∷ first) second small others = (small.0, small_append first second small.1 others)

block_is : (text : List ℕ) → IsRequired text → AreBytes 32 (name_block text)
block_is text required =
    let few = required.few in
    let count = 32 - length text in
    record {
      length = omega (arith, length-append text (replicate count 32), length-replicate {A = ℕ} count 32);
      bytes = small_each (name_block text) (small_append text (replicate count 32) required.small (small_blanks count));
    }

has_name_sound : (text : List ℕ) (most : ℕ) (asked : Bool) → IsRequired text → most < 2 ^ 16 → IsSound (asks_has_name text most asked)
has_name_sound text most true required fits = named_sound (name_block text) 0 (suc most) (block_is text required) (omega arith)
has_name_sound text most false required fits = (
  record { subject = tt; operand = count_sound most fits },
  named_sound (name_block text) 0 (suc most) (block_is text required) (omega arith),
)

-- Functions

pub function_soundly : {A : Type 0} (function : Function A) (asked : Bool) → IsSound (asks_function function asked)
function_soundly (HasNumber house) asked = has_number_sound house.number asked house.fits
function_soundly (HasName text limit) asked =
    has_name_sound text.bytes.items limit.number asked (text_required text.bytes.items text.is_text) limit.fits
function_soundly (Intersects shape) asked = meets_soundly Whole shape asked
function_soundly (StartsIn several) asked = meets_soundly Start (shape.Polygons several) asked
function_soundly (StartsInBounds bounds) asked = within_soundly Start bounds asked
function_soundly (Within bounds) asked = within_soundly Whole bounds asked

pub function_rightly : {A : Type 0} (segment : SegmentParts) → IsSegment segment → (function : Function A) (asked : Bool)
    → answer (asks_function function asked) segment ≡ is_truth (truth_of function segment) asked
function_rightly segment is (HasNumber house) asked = has_number_rightly segment is house.number asked
function_rightly segment is (HasName text limit) asked =
    has_name_rightly segment is text.bytes.items limit.number (text_required text.bytes.items text.is_text).few limit.fits asked
function_rightly segment is (Intersects shape) asked = intersects_rightly segment shape asked
function_rightly segment is (StartsIn several) asked = starts_in_rightly segment several asked
function_rightly segment is (StartsInBounds bounds) asked = starts_in_bounds_rightly segment bounds asked
function_rightly segment is (Within bounds) asked = within_rightly segment bounds asked
