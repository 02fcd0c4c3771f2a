use Rattle.std.proofs.Common.{append_assoc}
use Rattle.reports.proofs.EscapeLemmas.{escaped_name}
use Rattle.commands.proofs.failure.report_county_file.Goals as goal

pub returns : goal.returns
returns g c = (
  c.write_pieces.ensures.0,
  rw (escaped_name c.args.«data».now c.args.code.now c.args.«end».now) (simp append_assoc c.write_pieces.ensures.1),
)
