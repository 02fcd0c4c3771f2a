use Rattle.layers.proofs.names.unknown_column.Goals as goal

pub returns-in_default-clause-nearest : goal.returns-in_default-clause-nearest
returns-in_default-clause-nearest c = rw (c.as_bytes.ensures.value, c.trim.ensures.trim) at c.near_column.ensures
