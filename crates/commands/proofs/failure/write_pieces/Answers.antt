use Rattle.commands.proofs.failure.write_pieces.Goals as goal

pub returns : goal.returns
returns g c = (c.write_report.result, c.write_report.ensures)
