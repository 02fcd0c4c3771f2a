use Rattle.std.proofs.Common.{length}
use Rattle.cql2_code.proofs.pieces.+prepend_comparisons.Given as goal

abbrev pub decreases-prepend_comparisons : goal.decreases-prepend_comparisons
decreases-prepend_comparisons g l = length l.others.now
