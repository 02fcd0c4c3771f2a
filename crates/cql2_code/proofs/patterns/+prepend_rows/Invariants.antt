use Rattle.std.proofs.Common.{length}
use Rattle.cql2_code.proofs.patterns.+prepend_rows.Given as goal

abbrev pub decreases-prepend_rows : goal.decreases-prepend_rows
decreases-prepend_rows g l = length l.pattern.now
