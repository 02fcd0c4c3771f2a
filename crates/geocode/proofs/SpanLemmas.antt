-- Houses that aren't on a range.
use Rattle.std.proofs.Common.{◌≡◌, ◌∙◌, ◌-◌, ◌^◌, ℕ, true, false, List, [], refl, sym, arith}
use Rattle.std.proofs.lemmas.Bool.Decides.{nat_tests}
use Rattle.tl_segments.specs.Range.{lies_on}
use Rattle.tl_segments.specs.declared.range.RangeFields.{RangeFields}
use Rattle.geocode.specs.Hits.{hits_on_range}
use Rattle.geocode.specs.Sides.{side_of}
use Rattle.geocode.specs.Span.{IncludesHits, covers}
use Rattle.tl_segments.specs.Segment.{SegmentParts}
use Rattle.geocode.specs.declared.hit.Side.{Side}
use Rattle.geocode.specs.declared.hit.Side.TheVariants.{Left, Right}
use Rattle.geocode.specs.declared.house.House.{House}

-- a house whose number is on neither side has no hit on the range
pub hits-on_no_side : (house : House) (bytes : List ℕ) (range : RangeFields)
    → ((side : Side) → lies_on house.number (side_of range side).from (side_of range side).to ≡ false) → hits_on_range house bytes range ≡ []
hits-on_no_side house bytes range none =
    let left : lies_on house.number range.fraddl range.toaddl ≡ false = none Left in
    let right : lies_on house.number range.fraddr range.toaddr ≡ false = none Right in
    rw (left, right) refl

covers-whole : (number : ℕ) → covers (record { low = 0; high = 2 ^ 16 - 1 }) number ≡ true
covers-whole number = grind (arith, nat_tests)

-- the span of all house numbers is one of any segment
pub whole_includes : (segment : SegmentParts) → IncludesHits (record { low = 0; high = 2 ^ 16 - 1 }) segment
whole_includes segment house none = let clash = sym (covers-whole house.number) ∙ none in cc
