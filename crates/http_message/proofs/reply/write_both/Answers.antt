use Rattle.http_message.proofs.WritingLemmas.{then_written}
use Rattle.http_message.proofs.reply.write_both.Goals as goal

pub returns : goal.returns
returns g c = then_written c.args.first.now c.args.second.now _ _ _ _ c.in_ok-write_text.ensures c.write_text-2.ensures
