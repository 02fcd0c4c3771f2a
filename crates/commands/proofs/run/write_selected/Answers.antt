use Rattle.commands.proofs.RunLemmas.{accepted_outcome}
use Rattle.commands.proofs.run.write_selected.Goals as goal

pub returns : goal.returns
returns g c = accepted_outcome _ _ _ c.write_layer.result _ _ _ _ c.in_ok-verified.ensures.ok c.write_layer.ensures
