use Rattle.std.proofs.Common.{arith}
use Rattle.jobs.proofs.SegmentLemmas.{all_left, left_after_county, drop_item, cursor_end, cursor_here}
use Rattle.jobs.proofs.cursor.Cursor.after.Goals as goal

pub loop-number-init : goal.loop-number-init
loop-number-init g c = all_left _ _ c.requires.within

pub returns-then-left-segments-clause-cursor : goal.returns-then-left-segments-clause-cursor
returns-then-left-segments-clause-cursor g c =
    let here = drop_item _ _ _ _ c.loop-number-test.true c.index-counties-number.is in
    let some = rw c.segments.ensures.value at c.if-left-segments.true in
    cursor_here _ _ _ _ c.index-counties-number.result here c.loop-number.invariant c.requires.few c.requires.within some

pub loop-number-preserved : goal.loop-number-preserved
loop-number-preserved g c =
    let here = drop_item _ _ _ _ c.loop-number-test.true c.index-counties-number.is in
    let whole = rw c.segments.ensures.value at c.if-left-segments.false in
    rw c.segments.ensures.value (left_after_county _ _ _ _ c.index-counties-number.result here c.loop-number.invariant whole)

pub returns-clause-cursor : goal.returns-clause-cursor
returns-clause-cursor g c =
    let last = c.loop-number-test.false in
    let within = c.loop-number.auto.number-end in
    cursor_end _ _ _ _ c.loop-number.invariant (omega arith) c.requires.few c.requires.within
