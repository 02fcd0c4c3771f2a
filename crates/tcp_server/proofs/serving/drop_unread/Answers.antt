use Rattle.std.proofs.Common.{rules, inl, inr}
use Rattle.tcp_server.proofs.RepeatsLemmas.{one_more}
use Rattle.tcp_server.specs.Closing.{DropsBytes}
use Rattle.tcp_server.proofs.serving.drop_unread.Goals as goal

pub returns-in-Ok-eq0 : goal.returns-in-Ok-eq0
returns-in-Ok-eq0 g c =
    record {
      now = record { timed = c.loop-room.timed; room = c.loop-room.room };
      drops = c.loop-room.invariant;
      ends = inl (record { buffer = c.read.new.buf; result = c.read.result; waits = c.read.ensures.waits; none = inl (search rules) });
    }

pub loop-room-preserved : goal.loop-room-preserved
loop-room-preserved g c =
    one_more (DropsBytes _) _ (record { timed = c.loop-room.timed; room = c.loop-room.room }) _ c.loop-room.invariant
    (record { buffer = c.read.new.buf; count = c.in-Ok.count; waits = search rules; some = search rules; room = search rules })

pub returns-in-Err : goal.returns-in-Err
returns-in-Err g c =
    record {
      now = record { timed = c.loop-room.timed; room = c.loop-room.room };
      drops = c.loop-room.invariant;
      ends = inl (record {
        buffer = c.read.new.buf;
        result = c.read.result;
        waits = c.read.ensures.waits;
        none = inr (c.in-Err.field-0, search rules);
      });
    }

pub returns : goal.returns
returns g c =
    record {
      now = record { timed = c.loop-room.timed; room = c.loop-room.room };
      drops = c.loop-room.invariant;
      ends = inr (record { full = search rules; same = search rules });
    }
