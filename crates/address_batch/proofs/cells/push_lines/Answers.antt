use Rattle.address_batch.proofs.cells.push_lines.Goals as goal

pub returns-in-Found : goal.returns-in-Found
returns-in-Found g c = rw (c.in-Found.is, ← c.as_slice.ensures.value) c.push_matches.ensures
