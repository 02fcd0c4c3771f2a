use Rattle.std.proofs.Common.{length}
use Rattle.cql2_code.proofs.pieces.+prepend_each_required.Given as goal

abbrev pub decreases-prepend_each_required : goal.decreases-prepend_each_required
decreases-prepend_each_required g l = length l.piece.now
