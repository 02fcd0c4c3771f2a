use Rattle.cql2_code.proofs.field_pairs.+prepend_same.Given as goal

abbrev pub decreases-prepend_same : goal.decreases-prepend_same
decreases-prepend_same g l = l.left
