use Rattle.std.proofs.Common.{◌≡◌, length, arith}
use Rattle.http_message.proofs.SearchLemmas.{fails, no_head_by_limit, no_head_by_refusal, nothing_read, takes_more}
use Rattle.http_message.proofs.head.find_head.Goals as goal

pub loop-count-init : goal.loop-count-init
loop-count-init g c = nothing_read c.args.bytes.now _

pub returns-in_default : goal.returns-in_default
returns-in_default g c =
    fails (omega (arith, c.requires.bytes)) c.loop-count-test.true c.loop-count.invariant
    c.in_default.ensures.bytes c.in_default.ensures.failures

pub returns-in-Ok-Complete : goal.returns-in-Ok-Complete
returns-in-Ok-Complete g c = record {
  inside = omega (arith, c.in-Ok.ensures.bound.0);
  takes = takes_more c.read_counted.new.buf _ c.in-Ok.read c.loop-count.invariant c.in-Ok.ensures.bound.0
      (record { consumed = c.in-Ok.ensures.bytes.0; failed = c.in-Ok.ensures.failures });
  room = omega (arith, c.in-Ok.ensures.bound.0, c.requires.bytes);
  within = rw c.in-Ok-Complete.field-0-is at c.in-Ok-Complete.ensures.within;
  is_head = rw c.in-Ok-Complete.field-0-is at c.in-Ok-Complete.ensures.complete;
}

pub loop-count-preserved : goal.loop-count-preserved
loop-count-preserved g c = record {
  inside = omega (arith, c.in-Ok.ensures.bound.0);
  takes = takes_more c.read_counted.new.buf _ c.in-Ok.read c.loop-count.invariant c.in-Ok.ensures.bound.0
      (record { consumed = c.in-Ok.ensures.bytes.0; failed = c.in-Ok.ensures.failures });
  none = rw c.in-Ok-Partial.field-0-is at c.in-Ok-Partial.ensures.partial;
  unfinished = rw c.in-Ok-Partial.field-0-is at c.in-Ok-Partial.ensures.unfinished;
}

pub returns-in-Err : goal.returns-in-Err
returns-in-Err g c =
    let takes = takes_more c.read_counted.new.buf _ c.in-Ok.read c.loop-count.invariant c.in-Ok.ensures.bound.0
    (record { consumed = c.in-Ok.ensures.bytes.0; failed = c.in-Ok.ensures.failures }) in
    let room : length c.loop-count.headers ≡ 64 = omega (arith, c.requires.headers) in
    no_head_by_refusal _ _ takes (omega (arith, c.in-Ok.ensures.bound.0)) (grind (arith)) (omega (arith, c.requires.bytes))
    (rw room at c.in-Err.ensures.no_room)

pub returns : goal.returns
returns g c = no_head_by_limit c.loop-count.bytes c.loop-count.count _ _
    (omega (arith, c.requires.bytes)) c.loop-count-test.false c.loop-count.invariant
