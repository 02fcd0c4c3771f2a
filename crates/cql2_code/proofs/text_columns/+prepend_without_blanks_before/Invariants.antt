use Rattle.cql2_code.proofs.text_columns.+prepend_without_blanks_before.Given as goal

abbrev pub decreases-prepend_without_blanks_before : goal.decreases-prepend_without_blanks_before
decreases-prepend_without_blanks_before g l = l.field.width
