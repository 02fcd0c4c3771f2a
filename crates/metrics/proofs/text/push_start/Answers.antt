use Rattle.metrics.proofs.text.push_start.Goals as goal

pub returns-in-Some : goal.returns-in-Some
returns-in-Some g c = rw c.in-Some.is c.push_single.ensures
