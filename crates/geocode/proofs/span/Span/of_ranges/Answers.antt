use Rattle.std.proofs.Common.{◌≡◌, ◌<◌, [], false, length, sym, ◌∙◌, subst, arith}
use Rattle.tl_segments.specs.Range.{fields_of, own_range}
use Rattle.tl_segments.specs.Segment.{ranges_of}
use Rattle.geocode.specs.Hits.{hits_on_range}
use Rattle.geocode.specs.Span.{covers}
use Rattle.geocode.proofs.HitLemmas.{flat_map-at, read-within}
use Rattle.geocode.proofs.SpanLemmas.{hits-on_no_side}
use Rattle.geocode.proofs.span.Span.of_ranges.Goals as goal
use Rattle.geocode.proofs.span.Span.of_ranges.Goals.{in-Some, in_default}

pub loop-n-preserved : goal.loop-n-preserved
loop-n-preserved g c house none =
    let segment = c.args.segment.now in
    let ranges = ranges_of segment in
    let n = c.loop-n.n in
    let inside : n < length ranges = omega (arith, c.loop-n-test.true, c.ranges-n-end.ensures.value) in
    elim c.match-range.branch [
      | in-Some w ↦ (
          let range = fields_of w.in-Some.range in
          let included = w.with_range-span.ensures house.number (subst (λ span. covers span house.number ≡ false) w.span-is none) in
          sym (flat_map-at (hits_on_range house segment.bytes) [] [] ranges n range w.in-Some.ensures.value
          (sym (c.loop-n.invariant house included.0)))
          ∙ hits-on_no_side house segment.bytes range included.1)
      | in_default w ↦ absurd (read-within ranges n (own_range segment.bytes) inside w.in_default.ensures.value)
    ]
