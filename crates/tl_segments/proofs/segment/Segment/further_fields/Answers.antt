use Rattle.std.proofs.Common.{◌++◌, ap, sym, slice_get, ◌∙◌}
use Rattle.tl_segments.specs.FullName.{all_with_affixes}
use Rattle.tl_segments.specs.Segment.{SegmentParts}
use Rattle.tl_segments.specs.JoinedLists.{shared_names}
use Rattle.tl_segments.proofs.FullNameLemmas.{all_with_affixes-of}
use Rattle.tl_segments.proofs.segment.Segment.further_fields.Goals as goal

pub returns-clause-value : goal.returns-clause-value
returns-clause-value g c =
    let names = shared_names c.self.inside.shared ++ c.self.inside.names.items in
    let found = rw (c.shared_names.ensures, c.as_slice.ensures.value) at c.item_at.ensures in
    found
    ∙ ap (λ names. slice_get names c.args.index) (sym (all_with_affixes-of names))
    ∙ ap (λ (segment : SegmentParts). slice_get (all_with_affixes segment.affixes segment.names) c.args.index) c.self.view_is
