use Rattle.std.proofs.Common.{length}
use Rattle.cql2_code.proofs.patterns.+prepend_cells.Given as goal

abbrev pub decreases-prepend_cells : goal.decreases-prepend_cells
decreases-prepend_cells g l = length l.starts.now
