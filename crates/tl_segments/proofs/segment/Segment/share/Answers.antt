use Rattle.std.proofs.Common.{◌≡◌, None, rules}
use Rattle.std.proofs.lemmas.List.{append-nil}
use Rattle.tl_segments.proofs.segment.Segment.share.Goals as goal

pub invariant_of-segment : goal.invariant_of-segment
invariant_of-segment g c =
    let inside = c.self.inside in
    let none : inside.shared ≡ None = search rules in
    let whole = rw none at c.self.invariant in
    rw (
      c.new-2.ensures.items,
      c.new-3.ensures.items,
      c.in_ok-joined.ensures.ok,
      c.in_ok-names.ensures,
      c.in_ok-ranges.ensures,
      c.as_slice.ensures.value,
      c.as_slice-2.ensures.value,
      append-nil inside.names.items,
      append-nil inside.ranges.items,
    ) whole
