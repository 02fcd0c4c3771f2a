use Rattle.std.proofs.Common.{ap, sym, ◌∙◌}
use Rattle.std.proofs.lemmas.Result.{err_from_is_err_and}
use Rattle.tl_segments.specs.FullName.{contents, with_names}
use Rattle.tl_segments.specs.Indexing.{names_in}
use Rattle.tl_segments.specs.Segment.{SegmentParts, line_of}
use Rattle.tl_segments.specs.TableContents.{list_at}
use Rattle.tl_segments.proofs.IndexLemmas.{has_line, segment_read, wants_names, wants_ranges}
use Rattle.tl_segments.proofs.index.Index.next_segment.Goals as goal

pub returns : goal.returns
returns g c =
    let index = c.args.self.now in
    let tlid = c.tlid-tlid.result in
    let names = names_in index tlid in
    let ranges = list_at index.ranges tlid in
    let is = rw c.in-Ok-Some.field-0-is at c.in-Ok-Some.ensures in
    let same = c.push_ranges.ensures.bytes ∙ c.push_names.ensures.bytes in
    let made = c.in_ok-push_ranges.ensures.ranges
    ∙ ap (λ (segment : SegmentParts). record segment { ranges = ranges }) c.in_ok-push_names.ensures.names
    ∙ ap (λ (segment : SegmentParts). record (with_names segment names) { ranges = ranges }) is.1 in
    segment_read index (has_line (line_of c.args.number.now c.args.segment.now) _ tlid c.read_record.new.self is c.tlid-tlid.ensures same)
    (made ∙ ap (λ bytes. contents bytes names ranges) (sym same))

pub returns-in_err-push_names : goal.returns-in_err-push_names
returns-in_err-push_names g c =
    let is = rw c.in-Ok-Some.field-0-is at c.in-Ok-Some.ensures in
    let returned = err_from_is_err_and c.from_residual.result c.from_residual.ensures.1 in
    let has = has_line {segment = c.push_names.new.segment} (line_of c.args.number.now c.args.segment.now) _ c.tlid-tlid.result
    c.read_record.new.self is c.tlid-tlid.ensures c.push_names.ensures.bytes in
    rw (returned.1, returned.2) (wants_names c.args.self.now has c.in_err-push_names.ensures.some)

pub returns-in_err-push_ranges : goal.returns-in_err-push_ranges
returns-in_err-push_ranges g c =
    let is = rw c.in-Ok-Some.field-0-is at c.in-Ok-Some.ensures in
    let same = c.push_ranges.ensures.bytes ∙ c.push_names.ensures.bytes in
    let returned = err_from_is_err_and c.from_residual-in_err-push_ranges.result c.from_residual-in_err-push_ranges.ensures.1 in
    let has = has_line {segment = c.push_ranges.new.segment} (line_of c.args.number.now c.args.segment.now) _ c.tlid-tlid.result
    c.read_record.new.self is c.tlid-tlid.ensures same in
    rw (returned.1, returned.2) (wants_ranges c.args.self.now has c.in_err-push_ranges.ensures.some)
