use Rattle.cql2_code.proofs.field_pairs.+prepend_less.Given as goal

abbrev pub decreases-prepend_less : goal.decreases-prepend_less
decreases-prepend_less g l = l.left
