use Rattle.std.proofs.Common.{append_assoc}
use Rattle.commands.proofs.failure.report_file.Goals as goal

pub returns : goal.returns
returns g c = (c.write_pieces.ensures.0, simp append_assoc c.write_pieces.ensures.1)
