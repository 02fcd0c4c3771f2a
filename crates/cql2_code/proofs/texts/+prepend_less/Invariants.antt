use Rattle.std.proofs.Common.{length}
use Rattle.cql2_code.proofs.texts.+prepend_less.Given as goal

abbrev pub decreases-prepend_less : goal.decreases-prepend_less
decreases-prepend_less g l = length l.text.now
