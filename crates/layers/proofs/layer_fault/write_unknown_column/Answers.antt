use Rattle.layers.proofs.layer_fault.write_unknown_column.Goals as goal

pub returns-in-Some : goal.returns-in-Some
returns-in-Some g c = rw c.in-Some.is c.write_report.ensures

pub returns-in-None : goal.returns-in-None
returns-in-None g c = rw c.in-None.is c.write_report-in-None.ensures
