use Rattle.std.proofs.Common.{◌<◌, [], ◌∷◌, length, subst, sym}
use Rattle.tl_segments.specs.Segment.{SegmentParts}
use Rattle.tl_segments.specs.JoinedLists.{contents_with}
use Rattle.tl_segments.specs.declared.limits.TheConstants.{MAX_RANGES}
use Rattle.tl_segments.proofs.SharedLemmas.{ranges_pushed, with_range-is}
use Rattle.tl_segments.proofs.segment.Segment.push_range.Goals as goal

pub invariant_of-self-2 : goal.invariant_of-self-2
invariant_of-self-2 g c =
    let inside = c.self.inside in
    let before : SegmentParts = contents_with inside.shared inside.record.items inside.names.items inside.ranges.items in
    let room : length before.ranges < MAX_RANGES =
    subst (λ (segment : SegmentParts). length segment.ranges < MAX_RANGES) (sym c.self.view_is) c.requires.room in
    let pushed = ranges_pushed inside.shared inside.record.items inside.names.items inside.ranges.items (c.of.result ∷ []) in
    rw (c.in_ok-push.ensures.items, pushed)
    (with_range-is before c.of.result c.self.invariant c.of.ensures.fields room)
