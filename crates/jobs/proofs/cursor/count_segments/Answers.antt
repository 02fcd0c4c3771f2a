use Rattle.jobs.proofs.SegmentLemmas.{segments_more}
use Rattle.jobs.proofs.cursor.count_segments.Goals as goal

pub loop-county-preserved : goal.loop-county-preserved
loop-county-preserved g c =
    let few = rw c.segments.ensures.value at c.segments.ensures.few in
    rw c.segments.ensures.value (segments_more c.args.counties.now c.loop-county.county-index c.county-item.result c.loop-county.total
    c.loop-county-test.true c.county-item.is c.loop-county.invariant few)
