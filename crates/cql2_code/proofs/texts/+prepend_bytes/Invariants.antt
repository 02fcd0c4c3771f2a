use Rattle.std.proofs.Common.{length}
use Rattle.cql2_code.proofs.texts.+prepend_bytes.Given as goal

abbrev pub decreases-prepend_bytes : goal.decreases-prepend_bytes
decreases-prepend_bytes g l = length l.bytes.now
