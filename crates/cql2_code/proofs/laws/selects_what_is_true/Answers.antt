use Rattle.cql2_code.proofs.Compiled.{extracts, selects_true}
use Rattle.cql2_code.proofs.laws.selects_what_is_true.Goals as goal

pub returns-clause-selection : goal.returns-clause-selection
returns-clause-selection g c = selects_true

pub returns-clause-extract : goal.returns-clause-extract
returns-clause-extract g c = extracts
