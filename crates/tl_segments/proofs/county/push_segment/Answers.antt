use Rattle.std.proofs.Common.{◌≡◌, [], ◌∷◌, ◌++◌, Some, ap, sym, ◌∙◌, length-append, arith}
use Rattle.tl_segments.specs.County.{AreTlids, tlid_of}
use Rattle.tl_segments.specs.Joining.{number_in, segment_of}
use Rattle.tl_segments.specs.declared.fault.CountyFile.TheVariants.{Rt1}
use Rattle.tl_segments.proofs.IndexLemmas.{tlids_push}
use Rattle.tl_segments.proofs.JoiningLemmas.{segments_push}
use Rattle.tl_segments.proofs.county.push_segment.Goals as goal

pub returns-clause-added_line : goal.returns-clause-added_line
returns-clause-added_line g c = λ lines held.
    let bytes = c.args.line.now.bytes in
    let segments = c.args.segments.now.items in
    let tlids = c.args.tlids.now.items in
    let segment = c.in_ok-segment.field-0 in
    let record_of = c.in_ok-record.ensures.ok in
    let tlid : tlid_of segment ≡ Some c.number.result =
    ap (λ bytes. number_in Rt1 bytes) c.in_ok-segment.ensures.bytes ∙ c.number.ensures.value in
    let numbered : AreTlids c.push-2.new.self.items c.push.new.self.items =
    rw (c.in_ok-push.ensures.items, c.in_ok-push-2.ensures.items)
    (tlids_push tlids segments c.number.result segment held.numbered tlid) in (
      record { good = record_of.1; within = tt; distinct = tt },
      record {
        joined = λ joined of_joined.
            c.in_ok-push.ensures.items
            ∙ ap (λ segment. segments ++ segment ∷ []) (c.in_ok-segment.ensures.ok joined of_joined
            ∙ ap (λ bytes. segment_of joined bytes) record_of.0)
            ∙ ap (λ segments. segments ++ segment_of joined bytes ∷ []) (held.joined joined of_joined)
            ∙ sym (segments_push joined lines bytes);
        counted = rw c.in_ok-push.ensures.items (omega (
          arith,
          held.counted,
          length-append segments (segment ∷ []),
          length-append lines (bytes ∷ []),
        ));
        numbered = numbered;
      },
    )
