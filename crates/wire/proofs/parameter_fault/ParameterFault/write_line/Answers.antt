use Rattle.wire.proofs.parameter_fault.ParameterFault.write_line.Goals as goal

pub returns-in-Unknown : goal.returns-in-Unknown
returns-in-Unknown g c = rw c.in-Unknown.is c.write_report.ensures

pub returns-in-NoShapes : goal.returns-in-NoShapes
returns-in-NoShapes g c = rw c.in-NoShapes.is c.write_report-in-NoShapes.ensures
