use Rattle.std.proofs.Common.{length}
use Rattle.cql2_code.proofs.suffix.CodeSuffix.+prepend_all.Given as goal

abbrev pub decreases-prepend_all : goal.decreases-prepend_all
decreases-prepend_all g l = length l.insns.now
