use Rattle.std.proofs.Common.{length}
use Rattle.cql2_code.proofs.texts.+prepend_each.Given as goal

abbrev pub decreases-prepend_each : goal.decreases-prepend_each
decreases-prepend_each g l = length l.bytes.now
