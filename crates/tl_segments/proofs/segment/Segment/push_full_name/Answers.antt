use Rattle.std.proofs.Common.{◌<◌, [], ◌∷◌, length, subst, sym}
use Rattle.tl_segments.specs.Segment.{SegmentParts}
use Rattle.tl_segments.specs.JoinedLists.{contents_with}
use Rattle.tl_segments.specs.declared.limits.TheConstants.{MAX_NAMES}
use Rattle.tl_segments.proofs.FullNameLemmas.{with_name-is}
use Rattle.tl_segments.proofs.SharedLemmas.{names_pushed}
use Rattle.tl_segments.proofs.segment.Segment.push_full_name.Goals as goal

pub invariant_of-self-2 : goal.invariant_of-self-2
invariant_of-self-2 g c =
    let inside = c.self.inside in
    let before : SegmentParts = contents_with inside.shared inside.record.items inside.names.items inside.ranges.items in
    let room : length before.names < MAX_NAMES =
    subst (λ (segment : SegmentParts). length segment.names < MAX_NAMES) (sym c.self.view_is) c.requires.room in
    let pushed = names_pushed inside.shared inside.record.items inside.names.items (c.of.result ∷ []) inside.ranges.items in
    rw (c.in_ok-push.ensures.items, pushed)
    (with_name-is before c.of.result c.self.invariant c.of.ensures.fields room)
