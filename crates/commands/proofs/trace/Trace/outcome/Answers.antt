use Rattle.std.proofs.Common.{refl}
use Rattle.commands.specs.Trace.{of_code, of_county}
use Rattle.commands.proofs.trace.Trace.outcome.Goals as goal

pub returns-in-Err : goal.returns-in-Err
returns-in-Err g c =
    record { ends = of_code c.in-Err.fault c.in-Err.ensures.err c.refusal.ensures refl }

pub returns-in-Err-load : goal.returns-in-Err-load
returns-in-Err-load g c = record {
  ends = of_county _ c.in-Ok.ensures.ok c.in-Err-load.fault c.in-Err-load.ensures.err c.refusal-in-Err-load.ensures;
}
