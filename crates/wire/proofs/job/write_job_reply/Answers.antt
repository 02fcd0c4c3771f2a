use Rattle.std.proofs.Common.{refl}
use Rattle.wire.proofs.job.write_job_reply.Goals as goal

pub returns : goal.returns
returns g c = record {
  reply = _;
  is_such = record {
    event = c.args.event;
    is_event = refl;
    table_reply = c.apply-reply.result;
    step = c.apply-reply.follows.holds-at-none;
    is_reply = c.job_answer.ensures;
  };
  sends = c.write.ensures;
}
