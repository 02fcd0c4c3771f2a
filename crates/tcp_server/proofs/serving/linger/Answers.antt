use Rattle.std.proofs.Common.{rules}
use Rattle.tcp_server.proofs.serving.linger.Goals as goal

pub returns : goal.returns
returns g c = record { ended = c.end_output.ensures; last = c.drop_unread.new.timed; drops = search rules }
