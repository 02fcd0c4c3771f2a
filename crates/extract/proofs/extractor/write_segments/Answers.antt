use Rattle.std.proofs.Common.{refl, ◌∙◌}
use Rattle.std.proofs.lemmas.Result.{err_from_is_err_and}
use Rattle.extract.proofs.SegmentLemmas.{all_written, none_written, one_more, stops_at}
use Rattle.extract.proofs.extractor.write_segments.Goals as goal

pub loop-segment-init : goal.loop-segment-init
loop-segment-init g c = record { written = none_written _ _ _; same = refl }

pub returns-in_err-write_if_chosen : goal.returns-in_err-write_if_chosen
returns-in_err-write_if_chosen g c = record {
  written =
      let returned = err_from_is_err_and c.from_residual.result c.from_residual.ensures.1 in
      rw (returned.1, returned.2) (stops_at c.loop-segment.invariant.same c.args.segments.now c.loop-segment.segment-index c.segment-item.result
      c.loop-segment-test.true c.segment-item.is c.loop-segment.invariant.written _ _ c.in_err-write_if_chosen.ensures.written);
  same = c.in_err-write_if_chosen.ensures.same ∙ c.loop-segment.invariant.same;
}

pub loop-segment-preserved : goal.loop-segment-preserved
loop-segment-preserved g c = record {
  written = one_more c.loop-segment.invariant.same c.args.segments.now c.loop-segment.segment-index c.segment-item.result c.loop-segment-test.true
      c.segment-item.is c.loop-segment.invariant.written _ _ c.in_ok-write_if_chosen.ensures.written;
  same = c.in_ok-write_if_chosen.ensures.same ∙ c.loop-segment.invariant.same;
}

pub returns : goal.returns
returns g c = record {
  written = all_written c.args.segments.now _ c.loop-segment-test.false c.loop-segment.invariant.written;
  same = c.loop-segment.invariant.same;
}
