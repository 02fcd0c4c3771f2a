use Rattle.std.proofs.Common.{sym, ◌∙◌}
use Rattle.std.proofs.lemmas.List.{length-map}
use Rattle.tl_segments.specs.Shape.{part_in, shape_lines}
use Rattle.tl_segments.proofs.ShapeTableLemmas.{all_in_order, no_parts, parts_in_table}
use Rattle.tl_segments.proofs.shapes.Shapes.load.Goals as goal

pub read_file-requires : goal.read_file-requires
read_file-requires g c = λ tlid. c.new-parts.ensures tlid ∙ sym (no_parts tlid)

pub invariant_of-result : goal.invariant_of-result
invariant_of-result g c =
    let (rt2, holds, reads) = c.in_ok-read_file.ensures.ok in
    λ tlid. rw (holds tlid, length-map (shape_lines rt2 tlid) part_in, all_in_order rt2 tlid reads.good.good) (reads.good.within tlid)

pub returns-clause-ok : goal.returns-clause-ok
returns-clause-ok g c =
    let (rt2, holds, reads) = c.in_ok-read_file.ensures.ok in
    (rt2, (λ tlid. parts_in_table c.read_file.new.table tlid ∙ holds tlid), reads)
