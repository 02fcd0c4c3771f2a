use Rattle.std.proofs.Common.{length}
use Rattle.cql2_code.proofs.texts.+prepend_greater.Given as goal

abbrev pub decreases-prepend_greater : goal.decreases-prepend_greater
decreases-prepend_greater g l = length l.text.now
