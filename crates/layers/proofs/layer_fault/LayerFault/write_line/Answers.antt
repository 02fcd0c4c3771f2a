use Rattle.layers.proofs.layer_fault.LayerFault.write_line.Goals as goal

pub returns-in-Format : goal.returns-in-Format
returns-in-Format g c = rw c.in-Format.is c.write_broken_rule.ensures

pub returns-in-Geometry : goal.returns-in-Geometry
returns-in-Geometry g c = rw c.in-Geometry.is c.write_broken_rule-in-Geometry.ensures

pub returns-in-RepeatedColumn : goal.returns-in-RepeatedColumn
returns-in-RepeatedColumn g c = rw c.in-RepeatedColumn.is c.write_report-in-RepeatedColumn.ensures
