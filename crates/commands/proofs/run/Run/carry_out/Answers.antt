use Rattle.std.proofs.Common.{refl}
use Rattle.commands.proofs.CarriedLemmas.{inputs_carried}
use Rattle.commands.proofs.RunLemmas.{run_stopped, run_too_long}
use Rattle.commands.proofs.run.Run.carry_out.Goals as goal

pub returns-in-Err-clause-carried : goal.returns-in-Err-clause-carried
returns-in-Err-clause-carried g c =
    let shapes = c.has_shapes-shapes.ensures in
    inputs_carried g.F.Files.opens _ _ _ c.in-Err.failure (rw shapes at c.in-Err.ensures.err) (rw shapes at c.in-Err.ensures.names)
    c.in-Err.ensures.counts refl (run_too_long c.args.self _ _)

pub returns-clause-carried : goal.returns-clause-carried
returns-clause-carried g c =
    rw c.of_extract.ensures (run_stopped c.args.self _ _ _ _ _ _ _ _ _ (rw c.has_shapes-shapes.ensures at c.in-Ok.ensures.hold)
    c.in-Ok.ensures.counts c.close_county.ensures
    c.as_slice.ensures.value c.in-Err-written.fault c.in-Err-written.ensures)
