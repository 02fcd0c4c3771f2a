use Rattle.cql2_text.proofs.clause.+openings.Given as goal

abbrev pub decreases-openings : goal.decreases-openings
decreases-openings l = l.most
