use Rattle.std.proofs.Common.{refl, ◌∙◌}
use Rattle.layers.proofs.CountiesLemmas.{all_counties, no_county, segments_more, selected_more}
use Rattle.layers.proofs.counties.write_counties.Goals as goal

pub loop-county-init : goal.loop-county-init
loop-county-init g c = record { written = no_county _ _ _; same = refl }

pub loop-county-preserved : goal.loop-county-preserved
loop-county-preserved g c = record {
  written = selected_more c.loop-county.invariant.same
      (segments_more c.args.counties.now c.loop-county.county-index c.county-item.result c.loop-county-test.true c.county-item.is)
      c.loop-county.invariant.written (rw c.segments.ensures.value at c.in_ok-write_segments.ensures.written);
  same = c.write_segments.ensures.same ∙ c.loop-county.invariant.same;
}

pub returns : goal.returns
returns g c = all_counties c.args.counties.now _ c.loop-county-test.false c.loop-county.invariant.written
