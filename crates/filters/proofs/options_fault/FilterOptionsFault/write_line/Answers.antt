use Rattle.filters.proofs.options_fault.FilterOptionsFault.write_line.Goals as goal

pub returns-in-Language : goal.returns-in-Language
returns-in-Language g c = rw c.in-Language.is c.write_broken_rule.ensures

pub returns-in-Score : goal.returns-in-Score
returns-in-Score g c = rw c.in-Score.is c.write_broken_rule-in-Score.ensures
