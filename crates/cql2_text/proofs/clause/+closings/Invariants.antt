use Rattle.cql2_text.proofs.clause.+closings.Given as goal

abbrev pub decreases-closings : goal.decreases-closings
decreases-closings l = l.count
