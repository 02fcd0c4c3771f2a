use Rattle.std.proofs.Common.{◌≡◌, [], ap, ◌∙◌}
use Rattle.std.proofs.lemmas.Result.{err_from_is_err_and}
use Rattle.tl_segments.specs.FullName.{with_names}
use Rattle.tl_segments.specs.Indexing.{names_in}
use Rattle.tl_segments.specs.Segment.{SegmentParts}
use Rattle.tl_segments.specs.TableContents.{list_at}
use Rattle.tl_segments.proofs.IndexLemmas.{names_joined, ranges_joined, segment_from_index}
use Rattle.tl_segments.proofs.index.Index.segment.Goals as goal

pub returns-clause-ok : goal.returns-clause-ok
returns-clause-ok g c = λ lines of_lines.
    let index = c.args.self.now in
    let tlid = c.number-tlid.result in
    let names = names_in index tlid in
    let ranges = list_at index.ranges tlid in
    let line = c.args.rt1.now.bytes in
    let first : ◌≡◌ {A = SegmentParts} c.of-segment.result record { bytes = line; names = []; affixes = []; ranges = [] } =
    c.of-segment.ensures ∙ ap (λ bytes. let segment : SegmentParts = record { bytes = bytes; names = []; affixes = []; ranges = [] } in segment)
    c.bytes.ensures.value in
    let named = c.in_ok-push_names.ensures.names ∙ ap (λ (segment : SegmentParts). with_names segment names) first in
    let ranged = c.in_ok-push_ranges.ensures.ranges ∙ ap (λ (segment : SegmentParts). record segment { ranges = ranges }) named in
    segment_from_index index lines line tlid c.push_ranges.new.segment of_lines c.number-tlid.ensures.value ranged

pub returns-in_err-push_names-clause-memory : goal.returns-in_err-push_names-clause-memory
returns-in_err-push_names-clause-memory g c =
    let returned = err_from_is_err_and c.from_residual.result c.from_residual.ensures.1 in
    rw returned.1
    (λ lines of_lines. names_joined c.args.self.now lines c.args.rt1.now.bytes c.number-tlid.result of_lines
    c.number-tlid.ensures.value c.in_err-push_names.ensures.some)

pub returns-in_err-push_ranges-clause-memory : goal.returns-in_err-push_ranges-clause-memory
returns-in_err-push_ranges-clause-memory g c =
    let returned = err_from_is_err_and c.from_residual-in_err-push_ranges.result c.from_residual-in_err-push_ranges.ensures.1 in
    rw returned.1
    (λ lines of_lines. ranges_joined c.args.self.now lines c.args.rt1.now.bytes c.number-tlid.result of_lines
    c.number-tlid.ensures.value c.in_err-push_ranges.ensures.some)
