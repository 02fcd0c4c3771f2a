use Rattle.std.proofs.Common.{refl, rules}
use Rattle.commands.proofs.CarriedLemmas.{inputs_carried, written_usage}
use Rattle.commands.proofs.TraceLemmas.{no_outcome, outcome_written, trace_too_long}
use Rattle.commands.proofs.trace.Trace.carry_out.Goals as goal

pub returns-in-Err-clause-carried : goal.returns-in-Err-clause-carried
returns-in-Err-clause-carried g c =
    inputs_carried g.F.Files.opens _ _ _ c.in-Err.failure c.in-Err.ensures.err c.in-Err.ensures.names c.in-Err.ensures.counts refl
    (trace_too_long c.args.self _ _)

pub returns-in-Ok-traced-clause-carried : goal.returns-in-Ok-traced-clause-carried
returns-in-Ok-traced-clause-carried g c =
    outcome_written c.in-Ok.ensures.hold c.in-Ok.ensures.counts c.close_county.ensures c.as_slice.ensures.value c.write.result
    c.in-Ok-traced.ensures.ends (search rules)

pub returns-in-Ok-traced-clause-usage : goal.returns-in-Ok-traced-clause-usage
returns-in-Ok-traced-clause-usage g c = written_usage c.as_bytes.result.now c.write.result _ _ _ _ c.write.ensures

pub returns-clause-carried : goal.returns-clause-carried
returns-clause-carried g c =
    no_outcome c.in-Ok.ensures.hold c.in-Ok.ensures.counts c.close_county.ensures c.as_slice.ensures.value c.in-Err-traced.failure
    c.in-Err-traced.ensures.ends
