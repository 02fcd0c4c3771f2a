use Rattle.std.proofs.Common.{◌++◌, ◌<◌, length, subst, refl, sym, arith}
use Rattle.std.specs.List.{flat_map}
use Rattle.std.proofs.Common.{take}
use Rattle.std.proofs.lemmas.List.{append-nil}
use Rattle.tl_segments.specs.Range.{fields_of, own_range}
use Rattle.tl_segments.specs.Segment.{ranges_of}
use Rattle.geocode.specs.Matches.{matches_on_range, matching_of}
use Rattle.geocode.proofs.HitLemmas.{flat_map-at, read-within}
use Rattle.geocode.proofs.matching_segment.MatchingSegment.push_matches.Goals as goal
use Rattle.geocode.proofs.matching_segment.MatchingSegment.push_matches.Goals.{in-Some+in_ok-push_on_range, in_default}

pub loop-n-init : goal.loop-n-init
loop-n-init g c = λ matches has. subst (g.F.Findings.has c.args.found.now) (sym (append-nil matches)) has

pub loop-n-preserved : goal.loop-n-preserved
loop-n-preserved g c = λ matches has.
    let segment = c.args.self.now.segment.now in
    let on_range = matches_on_range c.args.house (matching_of c.args.self.now) in
    let ranges = ranges_of segment in
    let n = c.loop-n.n in
    let now = matches ++ flat_map on_range (take n ranges) in
    let inside : n < length ranges = omega (arith, c.loop-n-test.true, c.ranges-n-end.ensures.value) in
    elim c.match-range.branch [
      | in-Some+in_ok-push_on_range w ↦ (
          let range = fields_of w.in-Some.range in
          rw w.found-is (subst (g.F.Findings.has w.push_on_range.new.found)
          (flat_map-at on_range matches now ranges n range w.in-Some.ensures.value refl)
          (w.in_ok-push_on_range.ensures now (c.loop-n.invariant matches has))))
      | in_default w ↦ absurd (read-within ranges n (own_range segment.bytes) inside w.in_default.ensures.value)
    ]
